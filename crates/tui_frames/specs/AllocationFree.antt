-- Blocks that do not allocate.
use Rattle.std.specs.Prelude.{◌≡◌, ⊤, ℕ, Bool, true, ◌&&◌, All, List, Option, None, Some}
use Rattle.tui_cells.specs.Cell.{IsAllocationFree}
use Rattle.tui_text.specs.Setting.{AreAllocationFree}
use Rattle.tui_frames.specs.Block.{BlockData, TitleData}
use Rattle.tui_frames.specs.Borders.{bottom, has, left, right, top}
use Rattle.tui_frames.specs.Shadow.{IsAllocationFreeKind, ShadowData}

-- a symbol that is stored in its cell, if it is drawn
abbrev pub IsAllocationFreeIf : Bool → List ℕ → Type 0
IsAllocationFreeIf is_drawn symbol = is_drawn ≡ true → IsAllocationFree symbol

-- border symbols that are stored in their cells, each if its border is set, or both its borders
pub record AreAllocationFreeBorders (b : BlockData) : Type 0 where
  pub left_side : IsAllocationFreeIf (has b.borders left) b.symbols.vertical_left
  pub top_side : IsAllocationFreeIf (has b.borders top) b.symbols.horizontal_top
  pub right_side : IsAllocationFreeIf (has b.borders right) b.symbols.vertical_right
  pub bottom_side : IsAllocationFreeIf (has b.borders bottom) b.symbols.horizontal_bottom
  pub bottom_right : IsAllocationFreeIf (has b.borders bottom && has b.borders right) b.symbols.bottom_right
  pub top_right : IsAllocationFreeIf (has b.borders top && has b.borders right) b.symbols.top_right
  pub bottom_left : IsAllocationFreeIf (has b.borders bottom && has b.borders left) b.symbols.bottom_left
  pub top_left : IsAllocationFreeIf (has b.borders top && has b.borders left) b.symbols.top_left

-- titles whose graphemes are stored in their cells
abbrev pub AreAllocationFreeTitles : List TitleData → Type 0
AreAllocationFreeTitles titles = All (λ t. AreAllocationFree t.line.spans) titles

-- no shadow, or one that does not allocate
abbrev pub IsAllocationFreeShadow : Option ShadowData → Type 0
IsAllocationFreeShadow None = ⊤
IsAllocationFreeShadow (Some s) = IsAllocationFreeKind s.kind

-- a block that does not allocate, apart from its shadow
pub record IsAllocationFreeFrame (b : BlockData) : Type 0 where
  pub borders : AreAllocationFreeBorders b
  pub titles : AreAllocationFreeTitles b.titles

-- a block that does not allocate
pub record IsAllocationFreeBlock (b : BlockData) : Type 0 where
  pub frame : IsAllocationFreeFrame b
  pub shadow : IsAllocationFreeShadow b.shadow
