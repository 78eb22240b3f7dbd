-- Which constraints share the columns that are left.
use Rattle.std.specs.Prelude.{ℕ, ◌==◌, List, sum_by, if◌then◌else◌}
use Rattle.tui_layout.specs.declared.constraint.Constraint.{Constraint}
use Rattle.tui_layout.specs.declared.constraint.Constraint.TheVariants.{Min, Fill}
use Rattle.tui_layout.specs.declared.sharing.Sharing.{Sharing}
use Rattle.tui_layout.specs.declared.sharing.Sharing.TheVariants.{Weights, Fills, Mins}

-- the weight of a column when the rest is shared
abbrev pub weight : Sharing → Constraint → ℕ
weight Weights (Fill share) = share
weight Weights _ = 0
weight Fills (Fill share) = 1
weight Fills _ = 0
weight Mins (Min width) = 1
weight Mins _ = 0

-- Fill constraints share the rest by their weights, or equally if all weights are 0. Without a Fill, the Min
-- constraints share it.
abbrev pub sharing_of : List Constraint → Sharing
sharing_of cs = if sum_by (weight Weights) cs == 0 then (if sum_by (weight Fills) cs == 0 then Mins else Fills) else Weights
