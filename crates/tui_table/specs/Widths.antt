-- Which widths of columns are rejected.
use Rattle.std.specs.Prelude.{ℕ, Bool, false, nat_lt, List, Option}
use Rattle.std.specs.List.{position_from}
use Rattle.tui_layout.specs.declared.constraint.Constraint.{Constraint}
use Rattle.tui_layout.specs.declared.constraint.Constraint.TheVariants.{Percentage}

-- a percentage above 100
abbrev pub is_above_100 : Constraint → Bool
is_above_100 (Percentage percent) = nat_lt 100 percent
is_above_100 _ = false

-- the index, from 0, of the first such percentage
abbrev pub first_above_100 : List Constraint → Option ℕ
first_above_100 widths = position_from is_above_100 0 widths
