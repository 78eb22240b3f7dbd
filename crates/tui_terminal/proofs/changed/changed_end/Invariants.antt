use Rattle.std.proofs.Common.{◌≡◌, ◌-◌, drop, length}
use Rattle.tui_terminal.proofs.changed.changed_end.Given as goal

-- from here on both rows are equal
abbrev pub invariant-places : goal.invariant-places
invariant-places l = drop (length l.new - l.back) l.old ≡ drop (length l.new - l.back) l.new
