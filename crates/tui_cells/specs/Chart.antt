-- How border symbols are looked up: by their index in the block U+2500 to U+257F, and by the number of their arms.
use Rattle.std.specs.Prelude.{ℕ, ◌+◌, ◌-◌, ◌*◌, ◌&&◌, ◌==◌, nat_le, List, [], ◌∷◌, Option, None, Some, map, flat_map, unwrap_or, if◌then◌else◌}
use Rattle.tui_cells.specs.declared.arms.Arm.{Arm}
use Rattle.tui_cells.specs.declared.arms.Arm.TheVariants.{Empty, Light, Heavy, Double}
use Rattle.tui_cells.specs.declared.arms.Arms.{Arms}
use Rattle.tui_cells.specs.declared.box_drawing.Drawn.{Drawn}
use Rattle.tui_cells.specs.declared.box_drawing.Drawn.TheVariants.{Plain, LikePlain, Other}
use Rattle.tui_cells.specs.Arms.{weight}
use Rattle.tui_cells.specs.BoxDrawing.{plain_with}

-- the arms of a plain symbol
abbrev pub plain_drawn : Drawn → Option Arms
plain_drawn (Plain arms) = Some arms
plain_drawn (LikePlain arms) = None
plain_drawn Other = None

-- the arms of a symbol, or those of the plain one that it counts as
abbrev pub drawn_arms : Drawn → Option Arms
drawn_arms (Plain arms) = Some arms
drawn_arms (LikePlain arms) = Some arms
drawn_arms Other = None

-- the index of a character by the last two of its bytes in UTF-8
abbrev pub place_by : ℕ → ℕ → Option ℕ
place_by middle last = if middle == 0x94 then Some (last - 0x80) else (if middle == 0x95 then Some (last - 0x40) else None)

-- the index of a string that is a character of the block
abbrev pub place_in_chart : List ℕ → Option ℕ
place_in_chart (first ∷ (middle ∷ (last ∷ []))) = if (first == 0xE2) && (nat_le 0x80 last && nat_le last 0xBF) then place_by middle last else None
place_in_chart _ = None

-- the number of a set of arms: up counts most, left least
abbrev pub arms_number : Arms → ℕ
arms_number a = weight a.up * 64 + weight a.right * 16 + weight a.down * 4 + weight a.left

-- all arms, in the order of their weights
abbrev pub four_arms : List Arm
four_arms = Empty ∷ Light ∷ Heavy ∷ Double ∷ []

-- all sets of arms, in the order of their numbers
unfoldable pub all_arms : List Arms
all_arms = flat_map (λ up. flat_map (λ right. flat_map (λ down.
    map (λ left. record { up = up; right = right; down = down; left = left }) four_arms) four_arms) four_arms) four_arms

-- the plain symbol for each number, empty if there is none
unfoldable pub symbols_by_arms : List (List ℕ)
symbols_by_arms = map (λ arms. unwrap_or (plain_with arms) []) all_arms
