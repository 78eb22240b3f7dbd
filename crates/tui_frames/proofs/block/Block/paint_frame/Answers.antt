use Rattle.tui_cells.proofs.Painting.{Painted-then}
use Rattle.tui_text.proofs.Elements.{on_ok}
use Rattle.tui_frames.proofs.block.Block.paint_frame.Goals as goal

pub returns-clause-ok : goal.returns-clause-ok
returns-clause-ok c =
    on_ok c.paint_titles-2.result
    (Painted-then (Painted-then (Painted-then (Painted-then
    c.set_style.ensures c.in_ok-paint_sides.ensures.ok) c.in_ok-paint_corners.ensures.ok) c.in_ok-paint_titles.ensures.ok))
    c.paint_titles-2.ensures.ok
