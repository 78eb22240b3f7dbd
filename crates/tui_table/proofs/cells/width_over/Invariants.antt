use Rattle.std.proofs.Common.{◌≡◌, ◌≤◌, ◌*◌, take}
use Rattle.std.specs.Prelude.{sum_by}
use Rattle.tui_table.proofs.cells.width_over.Given as goal

abbrev pub invariant-loop-column : goal.invariant-loop-column
invariant-loop-column l = record {
  sum : l.width ≡ sum_by (λ c. c.width) (take l.column-index l.columns);
  small : l.width ≤ l.column-index * 65535;
}
