use Rattle.tui_cells.proofs.Painting.{Painted-then}
use Rattle.tui_text.proofs.Elements.{on_ok}
use Rattle.tui_frames.specs.Strokes.{row_titles}
use Rattle.tui_frames.proofs.block.Block.paint_titles.Goals as goal

pub returns-clause-ok : goal.returns-clause-ok
unfolding row_titles
returns-clause-ok c =
    let strip = rw c.place_of.ensures at c.strip-left.ensures in
    let first = rw strip at c.in_ok-paint_from.ensures.ok in
    let second = rw (strip, c.place_of-2.ensures) at c.in_ok-paint_middle.ensures.ok in
    on_ok c.paint_to_end.result (Painted-then (Painted-then first second)) (rw (strip, c.place_of-3.ensures) at c.paint_to_end.ensures.ok)
