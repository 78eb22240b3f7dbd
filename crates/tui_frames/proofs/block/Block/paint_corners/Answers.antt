use Rattle.tui_cells.proofs.Painting.{Painted-then}
use Rattle.tui_text.proofs.Elements.{on_ok}
use Rattle.tui_frames.specs.Strokes.{corners_layers}
use Rattle.tui_frames.proofs.block.Block.paint_corners.Goals as goal

pub returns-clause-ok : goal.returns-clause-ok
unfolding corners_layers
returns-clause-ok c =
    let x = c.last_column-right.ensures in
    let y = c.last_row-bottom.ensures in
    let first = rw (x, y) at c.in_ok-paint_corner.ensures.ok in
    let second = rw x at c.in_ok-paint_corner-2.ensures.ok in
    let third = rw y at c.in_ok-paint_corner-3.ensures.ok in
    on_ok c.paint_corner-4.result (Painted-then (Painted-then (Painted-then first second) third)) c.paint_corner-4.ensures.ok
