-- Sets of sides, and how they are written.
use Prim.Native.String.{String}
use Rattle.std.specs.Prelude.{ℕ, Bool, true, false, ◌==◌, List, [], ◌∷◌, ◌++◌, bit_and, bit_or, codes, if◌then◌else◌}
use Rattle.tui_frames.specs.declared.borders.Borders.{Borders}

-- the bits of the sides
abbrev pub top : ℕ
top = 1

abbrev pub right : ℕ
right = 2

abbrev pub bottom : ℕ
bottom = 4

abbrev pub left : ℕ
left = 8

-- a set by its bits
abbrev pub borders_of : ℕ → Borders
borders_of bits = record { bits = bits }

-- whether all of some sides are set
abbrev pub has : Borders → ℕ → Bool
has b sides = bit_and b.bits sides == sides

-- the sides of both
abbrev pub both_borders : Borders → Borders → Borders
both_borders a b = borders_of (bit_or a.bits b.bits)

-- a name, if its side is set
abbrev named : Bool → String → List (List ℕ)
named is_set name = if is_set then codes name ∷ [] else []

-- names with a bar between two
abbrev joined_names : List (List ℕ) → List ℕ
joined_names [] = []
joined_names (name ∷ []) = name
joined_names (name ∷ next ∷ names) = name ++ (codes " | " ++ joined_names (next ∷ names))

-- the names of the sides that are set, as they are written
abbrev pub sides_text : (top right bottom left : Bool) → List ℕ
sides_text false false false false = codes "NONE"
sides_text true true true true = codes "ALL"
sides_text t r b l = joined_names (named t "TOP" ++ named r "RIGHT" ++ named b "BOTTOM" ++ named l "LEFT")

-- a set as it is written
abbrev pub debug_text : Borders → List ℕ
debug_text b = sides_text (has b top) (has b right) (has b bottom) (has b left)
