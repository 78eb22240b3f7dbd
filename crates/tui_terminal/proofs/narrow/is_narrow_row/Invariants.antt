use Rattle.std.proofs.Common.{◌≡◌, drop}
use Rattle.std.specs.List.{list_all}
use Rattle.tui_terminal.specs.Narrow.{is_narrow}
use Rattle.tui_terminal.proofs.narrow.is_narrow_row.Given as goal

-- the remaining cells decide
abbrev pub invariant-columns : goal.invariant-columns
invariant-columns l = list_all (λ c. is_narrow l.widths c.symbol) (drop l.column l.row) ≡ list_all (λ c. is_narrow l.widths c.symbol) l.row
