use Rattle.std.proofs.Common.{arith}
use Rattle.std.proofs.lemmas.Grind.{common_steps}
use Rattle.tui_table.proofs.InColumns.{cell_none, cell_some}
use Rattle.tui_table.proofs.cells.paint_cell.Goals as goal

pub returns-then-is_empty-clause-ok : goal.returns-then-is_empty-clause-ok
returns-then-is_empty-clause-ok c = cell_none _ _ _ c.args.grid.columns.now _ _ (grind (arith, common_steps))

pub returns-clause-ok : goal.returns-clause-ok
returns-clause-ok c =
    cell_some c.paint_over.result c.args.area _ c.args.grid.gutter c.args.spacing _ c.args.grid.columns.now _ _ _ _ (omega arith) (grind (arith, common_steps))
    c.width_over-width.ensures c.part_of-part.ensures c.paint_over.ensures.ok
