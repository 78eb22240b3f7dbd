use Rattle.std.proofs.Common.{◌≡◌, ◌<◌, ◌≤◌, ℕ, Some}
use Rattle.tui_print.specs.Runs.{attributes_at}
use Rattle.tui_print.proofs.runs.matching_end.Given as goal

abbrev pub invariant-columns : goal.invariant-columns
invariant-columns l = (x : ℕ) → l.start ≤ x → x < l.column → attributes_at l.row x ≡ Some l.attributes
