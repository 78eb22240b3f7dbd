use Rattle.tui_cells.proofs.Painting.{Painted-then}
use Rattle.tui_text.proofs.Elements.{on_ok}
use Rattle.tui_frames.specs.Strokes.{sides_layers}
use Rattle.tui_frames.proofs.block.Block.paint_sides.Goals as goal

pub returns-clause-ok : goal.returns-clause-ok
unfolding sides_layers
returns-clause-ok c =
    let first = rw c.column_side.ensures at c.in_ok-paint_side.ensures.ok in
    let second = rw c.row_side.ensures at c.in_ok-paint_side-2.ensures.ok in
    let third = rw (c.column_side-2.ensures, c.last_column.ensures) at c.in_ok-paint_side-3.ensures.ok in
    let last = rw (c.row_side-2.ensures, c.last_row.ensures) at c.paint_side-4.ensures.ok in
    on_ok c.paint_side-4.result (Painted-then (Painted-then (Painted-then first second) third)) last
