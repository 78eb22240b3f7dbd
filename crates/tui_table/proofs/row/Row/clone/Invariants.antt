use Rattle.std.proofs.Common.{◌≡◌, map, take, true}
use Rattle.std.specs.Cmp.Lexicographic.{pointwise}
use Rattle.tui_table.specs.Cell.{cell_data}
use Rattle.tui_table.specs.contracts.cell.CellPartialEq.TheImpl.{eq-value}
use Rattle.tui_table.proofs.row.Row.clone.Given as goal

-- the first cells are copied
abbrev pub invariant-loop-cell : goal.invariant-loop-cell
invariant-loop-cell l = record {
  same : map cell_data l.cells.items ≡ map cell_data (take l.cell-index l.self.cells.items);
  equal : pointwise eq-value.it l.cells.items (take l.cell-index l.self.cells.items) ≡ true;
}
