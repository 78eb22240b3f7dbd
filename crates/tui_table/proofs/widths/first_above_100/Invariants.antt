use Rattle.std.proofs.Common.{◌≡◌, drop}
use Rattle.std.specs.List.{position_from}
use Rattle.tui_table.specs.Widths.{first_above_100, is_above_100}
use Rattle.tui_table.proofs.widths.first_above_100.Given as goal

-- the first such width, if any, is among those that are left
abbrev pub invariant-widths : goal.invariant-widths
invariant-widths l = position_from is_above_100 l.i (drop l.i l.widths) ≡ first_above_100 l.widths
