use Rattle.tui_cells.specs.Cell.{write}
use Rattle.tui_cells.specs.Buffer.{RowEdited}
use Rattle.tui_cells.proofs.row.cells.write_cells.Given as goal

abbrev pub invariant-cells : goal.invariant-cells
invariant-cells l = RowEdited l.from l.i (write l.symbol.bytes) l.fn.cells.items l.cells.items
