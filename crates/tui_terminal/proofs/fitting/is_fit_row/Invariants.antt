use Rattle.std.proofs.Common.{◌≡◌, drop}
use Rattle.tui_terminal.specs.Fitting.{are_fit}
use Rattle.tui_terminal.proofs.fitting.is_fit_row.Given as goal

-- the remaining cells decide
abbrev pub invariant-columns : goal.invariant-columns
invariant-columns l = are_fit l.widths (drop l.column l.row) ≡ are_fit l.widths l.row
