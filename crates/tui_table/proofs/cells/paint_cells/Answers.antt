use Rattle.std.proofs.Common.{◌+◌, ap, arith, map}
use Rattle.std.proofs.lemmas.List.{length-map}
use Rattle.tui_cells.proofs.Painting.{KeptOutside-then}
use Rattle.tui_table.specs.Cell.{cell_data}
use Rattle.tui_table.proofs.InColumns.{cells_done, cells_more}
use Rattle.tui_table.proofs.cells.paint_cells.Goals as goal

pub cells-preserved : goal.cells-preserved
cells-preserved c = record {
  rest = λ final q. c.cells.invariant.rest final
      (cells_more cell_data c.args.cells.now _ _ _ c.args.kind c.cells.i c.cells.used (c.cells.used + c.min.result)
      c.args.grid.columns.now c.index-cells-i.result _ _ final (omega arith) c.index-cells-i.is
      c.cells.invariant.within (ap (λ n. c.cells.used + n) (rw (c.from.ensures, c.span_in.ensures) at c.min.ensures)) c.in_ok-paint_cell.ensures.ok q);
  kept = KeptOutside-then c.cells.invariant.kept c.in_ok-paint_cell.ensures.kept;
  within = omega (arith, c.min.ensures, c.cells.invariant.within);
}

pub returns-clause-ok : goal.returns-clause-ok
returns-clause-ok c = c.cells.invariant.rest _ (cells_done _ _ _ _ c.cells.i _ (map cell_data c.args.cells.now) _ (rw (length-map c.args.cells.now cell_data) (omega arith)))
