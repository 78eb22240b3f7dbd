use Rattle.std.proofs.Common.{◌≡◌, ◌*◌, ◌≤◌}
use Rattle.tui_layout.specs.Sums.{total}
use Rattle.tui_table.specs.Row.{heights_of}
use Rattle.tui_table.specs.Table.{table_data}
use Rattle.tui_table.proofs.table.Table.rows_between.Given as goal

abbrev pub invariant-rows : goal.invariant-rows
invariant-rows l = record {
  sum : l.sum ≡ total (heights_of (table_data l.self).rows) l.first l.i;
  small : l.sum ≤ l.i * 196605;
  from : l.first ≤ l.i;
}
