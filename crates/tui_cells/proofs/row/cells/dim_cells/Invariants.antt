use Rattle.tui_cells.specs.Cell.{dim}
use Rattle.tui_cells.specs.Buffer.{RowEdited}
use Rattle.tui_cells.proofs.row.cells.dim_cells.Given as goal

abbrev pub invariant-cells : goal.invariant-cells
invariant-cells l = RowEdited l.from l.i dim l.fn.cells.items l.cells.items
