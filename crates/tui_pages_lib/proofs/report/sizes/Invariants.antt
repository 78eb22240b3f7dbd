use Rattle.std.proofs.Common.{◌≡◌, map, take}
use Rattle.tui_pages_lib.specs.Report.{column_data}
use Rattle.tui_pages_lib.proofs.report.sizes.Given as goal

abbrev pub invariant-columns : goal.invariant-columns
invariant-columns l = l.sizes.items ≡ map (λ c. c.size) (map column_data (take l.i l.columns))
