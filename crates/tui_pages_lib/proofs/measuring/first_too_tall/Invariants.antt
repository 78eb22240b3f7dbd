use Rattle.std.proofs.Common.{◌≤◌, All, take}
use Rattle.tui_pages_lib.specs.Heights.{max_lines}
use Rattle.tui_pages_lib.proofs.measuring.first_too_tall.Given as goal

abbrev pub invariant-heights : goal.invariant-heights
invariant-heights l = All (λ height. height ≤ max_lines) (take l.place l.heights)
