use Rattle.tui_cells.specs.Cell.{wipe}
use Rattle.tui_cells.specs.Buffer.{RowEdited}
use Rattle.tui_cells.proofs.row.cells.wipe_cells.Given as goal

abbrev pub invariant-cells : goal.invariant-cells
invariant-cells l = RowEdited l.from l.i wipe l.fn.cells.items l.cells.items
