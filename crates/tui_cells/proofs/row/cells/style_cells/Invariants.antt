use Rattle.tui_cells.specs.Cell.{set_style}
use Rattle.tui_cells.specs.Buffer.{RowEdited}
use Rattle.tui_cells.proofs.row.cells.style_cells.Given as goal

abbrev pub invariant-cells : goal.invariant-cells
invariant-cells l = RowEdited l.from l.i (set_style l.style) l.fn.cells.items l.cells.items
