-- A text input as plain data, its strokes, and the state after a drawing.
use Rattle.std.specs.Prelude.{
  ◌≡◌,
  ℕ,
  ◌+◌,
  ◌-◌,
  ◌==◌,
  Bool,
  true,
  false,
  IsSome,
  List,
  [],
  ◌∷◌,
  ◌++◌,
  length,
  drop,
  Option,
  None,
  Some,
  option_map,
  if◌then◌else◌,
}
use Rattle.std.specs.Option.{option_copied}
use Rattle.tui_cells.specs.declared.position.Position.{Position}
use Rattle.tui_cells.specs.declared.rect.Rect.{Rect}
use Rattle.tui_cells.specs.declared.style.Style.{Style}
use Rattle.tui_cells.specs.Cell.{set_style}
use Rattle.tui_cells.specs.Layers.{Layer, stroke}
use Rattle.tui_cells.specs.Rect.{covers, right_of}
use Rattle.tui_cells.specs.Style.{no_style}
use Rattle.tui_frames.specs.Block.{BlockData, block_data}
use Rattle.tui_frames.specs.InBlock.{block_layers_if, inner_of}
use Rattle.tui_input.specs.Scroll.{IsScrolled, cursor_column, scrolled, shown}
use Rattle.tui_input.specs.State.{TypedText, text_of}
use Rattle.tui_input.specs.declared.input.Input as widget
use Rattle.tui_text.specs.Setting.{corner, set_clusters, set_layers}
use Rattle.tui_text.specs.Span.{SpanData, span_data}

-- a text input as plain data
pub record InputData : Type 0 where
  pub block : Option BlockData
  pub style : Style
  pub placeholder : SpanData
  pub mask : Option (List ℕ)

-- an input of the code as plain data
abbrev pub input_data : widget.Input → InputData
input_data i = record {
  block = option_map block_data i.block;
  style = i.style;
  placeholder = span_data i.placeholder;
  mask = option_copied i.mask;
}

-- an input without block, style, placeholder and mask
abbrev pub bare_input : InputData
bare_input = record { block = None; style = no_style; placeholder = record { content = []; style = no_style }; mask = None }

-- whether an area has a cell
abbrev pub has_cell : Rect → Bool
has_cell area = covers area area.x area.y

-- the columns of an area, up to the farthest edge
abbrev pub room_of : Rect → ℕ
room_of area = right_of area - area.x

-- the clusters to show: those left of the cursor from the first one on, and those right of it
abbrev pub shown_pieces : Option (List ℕ) → TypedText → List (List ℕ)
shown_pieces mask s = drop s.first (shown mask s.before) ++ shown mask s.after

-- the placeholder if the text is empty; otherwise the clusters side by side, up to the first that doesn't fit
unfoldable pub text_layers : InputData → Rect → TypedText → List Layer
text_layers i inner s =
    if length (text_of s) == 0 then set_layers inner (corner inner) (i.placeholder ∷ []) inner.width
    else set_clusters inner.x inner.y (room_of inner) no_style (shown_pieces i.mask s)

-- the state after a drawing in an area
abbrev pub input_after : InputData → Rect → TypedText → TypedText
input_after i inner s = if has_cell inner then scrolled i.mask (room_of inner) s else s

-- what is drawn in an area, given the state before the drawing
abbrev pub content_layers : InputData → Rect → TypedText → List Layer
content_layers i inner s = if has_cell inner then text_layers i inner (scrolled i.mask (room_of inner) s) else []

-- the style, the block, and the text in the first row inside the block
abbrev pub input_layers : InputData → TypedText → Rect → List Layer
input_layers i s clip = stroke (covers clip) (set_style i.style) ++ (block_layers_if i.block clip ++ content_layers i (inner_of i.block clip) s)

-- ---- the cursor

-- the position of a column in the first row of an area, if the area has it
abbrev pub place_in : Rect → ℕ → Option Position
place_in area column = if covers area (area.x + column) area.y then Some (record { x = area.x + column; y = area.y }) else None

-- the cursor in the area of an input, if it is visible there: right after what is shown left of it
abbrev pub cursor_in : InputData → Rect → TypedText → Option Position
cursor_in i area s = place_in (inner_of i.block area) (cursor_column i.mask s)

-- What a user can rely on. If there is no cell inside the block, the state doesn't change. Otherwise the first cluster
-- moves as little as possible, and the cursor is visible.
pub record InputMoves (i : InputData) (clip : Rect) (old new : TypedText) : Type 0 where
  pub stays : has_cell (inner_of i.block clip) ≡ false → new ≡ old
  pub scrolls : has_cell (inner_of i.block clip) ≡ true → IsScrolled i.mask (room_of (inner_of i.block clip)) old new
  pub seen : has_cell (inner_of i.block clip) ≡ true → IsSome (cursor_in i clip new)
