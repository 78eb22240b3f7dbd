-- The number of a page at the right of a row.
use Rattle.std.proofs.Common.{◌≡◌, ℕ, ◌+◌, ◌-◌, min, List, [], ◌∷◌, length, refl, subst, arith}
use Rattle.std.specs.Prelude.{decimal}
use Rattle.tui_cells.specs.Buffer.{Screen}
use Rattle.tui_cells.specs.Layers.{KeptOutside, Painted}
use Rattle.tui_cells.specs.Rect.{covers, intersection_of, right_of}
use Rattle.tui_cells.specs.Style.{no_style}
use Rattle.tui_cells.specs.declared.position.Position.{Position}
use Rattle.tui_cells.specs.declared.rect.Rect.{Rect}
use Rattle.tui_cells.specs.declared.style.Style.{Style}
use Rattle.tui_cells.proofs.Painting.{KeptOutside-weaker}
use Rattle.tui_cells.proofs.Regions.{outside_both}
use Rattle.tui_text.specs.Setting.{set_layers, styled_text}
use Rattle.tui_text.proofs.AllocationFreeTexts.{both_printable, decimal_printable}
use Rattle.tui_pages_lib.specs.Laws.{NumbersAreColumns}
use Rattle.tui_pages_lib.specs.Strokes.{right_layers}

-- a text that is written so that it ends at the right edge of a clip
pub right_set : (area clip : Rect) (x room : ℕ) (style : Style) (text : List ℕ) (a b : Screen) → clip ≡ intersection_of area a.area →
    room ≡ min clip.width (length text) → x ≡ right_of clip - room → style ≡ no_style →
    Painted (set_layers clip (record { x = x; y = clip.y }) (styled_text text style) room) a b → Painted (right_layers a.area area text) a b
unfolding right_layers
right_set area clip x room style text a b is count column unwrapped set =
    let at : ℕ → Position = λ k. record { x = k; y = clip.y } in
    let unstyled : Painted (set_layers clip (at x) (styled_text text no_style) room) a b =
    subst (λ s. Painted (set_layers clip (at x) (styled_text text s) room) a b) unwrapped set in
    let placed : Painted (set_layers clip (at (right_of clip - room)) (styled_text text no_style) room) a b =
    subst (λ k. Painted (set_layers clip (at k) (styled_text text no_style) room) a b) column unstyled in
    let all_room : Rect → ℕ = λ (c : Rect). min c.width (length text) in
    let whole : Painted (set_layers clip (at (right_of clip - all_room clip)) (styled_text text no_style) (all_room clip)) a b =
    subst (λ n. Painted (set_layers clip (at (right_of clip - n)) (styled_text text no_style) n) a b) count placed in
    subst (λ (c : Rect). Painted (set_layers c (record { x = right_of c - all_room c; y = c.y }) (styled_text text no_style) (all_room c)) a b) is whole

-- what changes nothing outside a clip
pub clip_kept : (area clip : Rect) (a b : Screen) → clip ≡ intersection_of area a.area → KeptOutside (covers clip) a b → KeptOutside (covers area) a b
clip_kept area clip a b is kept =
    KeptOutside-weaker (λ x y out. outside_both area a.area x y out) (subst (λ (c : Rect). KeptOutside (covers c) a b) is kept)

pub numbers_are_columns : NumbersAreColumns
numbers_are_columns at count less small =
    both_printable (decimal (at + 1)) (47 ∷ decimal count) (decimal_printable (at + 1) (omega arith))
    (both_printable (47 ∷ []) (decimal count) refl (decimal_printable count (omega arith)))
