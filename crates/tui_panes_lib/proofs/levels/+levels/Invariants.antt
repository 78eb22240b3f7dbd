use Rattle.std.proofs.Common.{◌≡◌, ◌+◌, ◌*◌, drop}
use Rattle.std.specs.Prelude.{nat_le}
use Rattle.tui_panes_lib.specs.Levels.{parts_levels}
use Rattle.tui_panes_lib.specs.Pane.{parts_of}
use Rattle.tui_panes_lib.proofs.levels.+levels.Given as goal

abbrev pub decreases-is_within_levels : goal.decreases-is_within_levels
decreases-is_within_levels l = 2 * l.limit

abbrev pub decreases-are_within_levels : goal.decreases-are_within_levels
decreases-are_within_levels l = 2 * l.limit + 1

-- the first parts are within the limit, so the others decide
abbrev pub invariant-are_within_levels-parts : goal.invariant-are_within_levels-parts
invariant-are_within_levels-parts l =
    nat_le (parts_levels (parts_of l.parts)) l.limit ≡ nat_le (parts_levels (parts_of (drop l.part-index l.parts))) l.limit
