-- The arms of border symbols, and how they are joined.
use Rattle.std.specs.Prelude.{ℕ, Bool, not, ◌&&◌, ◌||◌, ◌==◌}
use Rattle.tui_cells.specs.declared.arms.Arm.{Arm}
use Rattle.tui_cells.specs.declared.arms.Arm.TheVariants.{Empty, Light, Heavy, Double}
use Rattle.tui_cells.specs.declared.arms.Arms.{Arms}

-- the number of an arm, by which arms are compared
abbrev pub weight : Arm → ℕ
weight Empty = 0
weight Light = 1
weight Heavy = 2
weight Double = 3

-- whether the arms are the same in each direction
abbrev pub same_arms : Arms → Arms → Bool
same_arms a b = (weight a.up == weight b.up) && (weight a.right == weight b.right) && (weight a.down == weight b.down) && (weight a.left == weight b.left)

-- the new arm, or the old one if the new symbol has none
abbrev pub joined_arm : Arm → Arm → Arm
joined_arm old Empty = old
joined_arm old Light = Light
joined_arm old Heavy = Heavy
joined_arm old Double = Double

-- in each direction the new arm if there is one, else the old one
abbrev pub joined_arms : Arms → Arms → Arms
joined_arms old new = record {
  up = joined_arm old.up new.up;
  right = joined_arm old.right new.right;
  down = joined_arm old.down new.down;
  left = joined_arm old.left new.left;
}

-- a double arm becomes a light one
abbrev pub lightened_arm : Arm → Arm
lightened_arm Empty = Empty
lightened_arm Light = Light
lightened_arm Heavy = Heavy
lightened_arm Double = Light

-- each double arm becomes a light one
abbrev pub lightened_arms : Arms → Arms
lightened_arms a = record {
  up = lightened_arm a.up;
  right = lightened_arm a.right;
  down = lightened_arm a.down;
  left = lightened_arm a.left;
}

-- whether there is an arm in some direction
abbrev pub has_arm : Arms → Bool
has_arm a = not ((weight a.up == 0) && (weight a.right == 0) && (weight a.down == 0) && (weight a.left == 0))

-- whether there is a double arm in some direction
abbrev pub has_double : Arms → Bool
has_double a = (weight a.up == 3) || (weight a.right == 3) || (weight a.down == 3) || (weight a.left == 3)

-- at least one arm is empty, or both are the same
abbrev pub agree : Arm → Arm → Bool
agree a b = (weight a == 0) || (weight b == 0) || (weight a == weight b)

-- no direction has two different arms
abbrev pub all_agree : Arms → Arms → Bool
all_agree a b = agree a.up b.up && agree a.right b.right && agree a.down b.down && agree a.left b.left
