-- What a column asks for.
use Rattle.std.specs.Prelude.{ℕ, ◌*◌, ◌/◌, max}
use Rattle.tui_layout.specs.declared.constraint.Constraint.{Constraint}
use Rattle.tui_layout.specs.declared.constraint.Constraint.TheVariants.{Min, Max, Length, Percentage, Ratio, Fill}

-- what a constraint asks for, given the length that is split
abbrev pub requested_width : ℕ → Constraint → ℕ
requested_width size (Min width) = width
requested_width size (Max width) = width
requested_width size (Length width) = width
requested_width size (Percentage percent) = size * percent / 100
requested_width size (Ratio part whole) = size * part / max whole 1
requested_width size (Fill weight) = 0
