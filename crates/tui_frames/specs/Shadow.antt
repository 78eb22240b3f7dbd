-- What a shadow draws, and where.
use Rattle.std.specs.Prelude.{⊤, ℕ, pos, Bool, not, ◌&&◌, ◌||◌, List, [], ◌∷◌}
use Rattle.tui_cells.specs.declared.offset.Offset.{Offset}
use Rattle.tui_cells.specs.declared.rect.Rect.{Rect}
use Rattle.tui_cells.specs.declared.style.Style.{Style}
use Rattle.tui_cells.specs.Cell.{Edit, IsAllocationFree, dim, set_style, write}
use Rattle.tui_cells.specs.Layers.{Layer, over}
use Rattle.tui_cells.specs.Rect.{covers, offset_of}
use Rattle.tui_cells.specs.Style.{no_style}
use Rattle.tui_frames.specs.declared.shadow.Shadow.{Shadow}
use Rattle.tui_frames.specs.declared.shadow.ShadowKind.{ShadowKind}
use Rattle.tui_frames.specs.declared.shadow.ShadowKind.TheVariants as kinds

-- the kind of a shadow as plain data
pub data KindData : Type 0 where
  overlay : KindData
  symbol : List ℕ → KindData
  dimmed : KindData

-- a shadow as plain data: its kind, its style, and how far it is moved
pub record ShadowData : Type 0 where
  pub kind : KindData
  pub style : Style
  pub offset : Offset

-- a kind of the code as plain data
abbrev pub kind_data : ShadowKind → KindData
kind_data kinds.Overlay = overlay
kind_data (kinds.Symbol text) = symbol text.now
kind_data kinds.Dimmed = dimmed

-- a shadow of the code as plain data
abbrev pub shadow_data : Shadow → ShadowData
shadow_data s = record { kind = kind_data s.kind; style = s.style; offset = s.offset }

-- a shadow of a kind that sets no style, one column to the right and one row down
abbrev pub shadow_of : KindData → ShadowData
shadow_of kind = record { kind = kind; style = no_style; offset = record { x = pos 1; y = pos 1 } }

-- the base moved by the offset
abbrev pub shadow_area : ShadowData → Rect → Rect
shadow_area s base = offset_of base s.offset

-- the cells of an area outside a base
abbrev pub in_shadow : Rect → Rect → ℕ → ℕ → Bool
in_shadow area base x y = covers area x y && not (covers base x y)

-- what happens in a cell of a shadow besides its style
abbrev pub kind_edits : KindData → List Edit
kind_edits overlay = []
kind_edits (symbol text) = write text ∷ []
kind_edits dimmed = dim ∷ []

-- the style, and then what the kind does, in the cells of the moved base outside the base
unfoldable pub shadow_layers : ShadowData → Rect → List Layer
shadow_layers s base = over (in_shadow (shadow_area s base) base) (set_style s.style ∷ kind_edits s.kind)

-- the positions that a widget with a shadow may change: its own, and those of its shadow
abbrev pub shadow_footprint : ShadowData → Rect → ℕ → ℕ → Bool
shadow_footprint s base x y = covers base x y || covers (shadow_area s base) x y

-- a shadow that does not allocate: one without a symbol, or one whose symbol is stored in the cells
abbrev pub IsAllocationFreeKind : KindData → Type 0
IsAllocationFreeKind overlay = ⊤
IsAllocationFreeKind (symbol text) = IsAllocationFree text
IsAllocationFreeKind dimmed = ⊤
