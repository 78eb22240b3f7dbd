-- The selected one of several items, and the law that its style stays in its area.
use Rattle.std.specs.Prelude.{ℕ, ◌==◌, Bool, true, false, [], Option, None, Some, if◌then◌else◌}
use Rattle.tui_cells.specs.declared.rect.Rect.{Rect}
use Rattle.tui_cells.specs.declared.style.Style.{Style}
use Rattle.tui_cells.specs.Cell.{set_style}
use Rattle.tui_cells.specs.Layers.{StayIn, stroke}
use Rattle.tui_cells.specs.Rect.{covers}
use Rattle.tui_cells.specs.Stays.{StayIn-none, StayIn-stroke}

-- whether the item with index i is the selected one
abbrev pub is_at : Option ℕ → ℕ → Bool
is_at None i = false
is_at (Some s) i = s == i

-- a style on an area stays there
pub dress_stays : (area : Rect) (style : Style) → StayIn (covers area) (stroke (covers area) (set_style style))
dress_stays area style = StayIn-stroke (covers area) (set_style style) (λ x y out. out)

-- so does a style that only the selected item has
pub highlight_stays : (area : Rect) (style : Style) (is_selected : Bool) →
    StayIn (covers area) (if is_selected then stroke (covers area) (set_style style) else [])
highlight_stays area style true = dress_stays area style
highlight_stays area style false = StayIn-none
