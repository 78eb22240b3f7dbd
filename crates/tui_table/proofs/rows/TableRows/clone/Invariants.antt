use Rattle.std.proofs.Common.{◌≡◌, map, take, true}
use Rattle.std.specs.Cmp.Lexicographic.{pointwise}
use Rattle.tui_table.specs.Row.{row_data}
use Rattle.tui_table.specs.contracts.row.RowPartialEq.TheImpl.{eq-value}
use Rattle.tui_table.proofs.rows.TableRows.clone.Given as goal

-- the first rows are copied
abbrev pub invariant-loop-row : goal.invariant-loop-row
invariant-loop-row l = record {
  same : map row_data l.rows.items ≡ map row_data (take l.row-index l.self);
  equal : pointwise eq-value.it l.rows.items (take l.row-index l.self) ≡ true;
}
