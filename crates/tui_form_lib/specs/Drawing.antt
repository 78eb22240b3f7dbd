-- What a form draws.
use Rattle.std.specs.Prelude.{
  ◌≡◌,
  ◌≤◌,
  ℕ,
  ◌+◌,
  ◌-◌,
  ◌*◌,
  ◌&&◌,
  Bool,
  true,
  false,
  min,
  nat_lt,
  List,
  [],
  ◌∷◌,
  ◌++◌,
  Option,
  None,
  Some,
  codes,
  slice_get,
  if◌then◌else◌,
}
use Rattle.std.specs.Option.{option_map_or}
use Rattle.tui_app.specs.TooSmall.{DrawsTooSmall}
use Rattle.tui_cells.specs.Buffer.{Screen, cell_at}
use Rattle.tui_cells.specs.Cell.{blank}
use Rattle.tui_cells.specs.Layers.{Layer, layers_at}
use Rattle.tui_cells.specs.Rect.{columns_from, covers, farthest_edge, rows_from}
use Rattle.tui_cells.specs.declared.position.Position.{Position}
use Rattle.tui_cells.specs.declared.rect.Rect.{Rect}
use Rattle.tui_form_lib.specs.Field.{FieldData}
use Rattle.tui_form_lib.specs.Form.{FormData}
use Rattle.tui_form_lib.specs.Lines.{items_from}
use Rattle.tui_form_lib.specs.Steps.{changed_at}
use Rattle.tui_form_lib.specs.Value.{ValueData, typed_value}
use Rattle.tui_frames.specs.Block.{BlockData, block_of}
use Rattle.tui_frames.specs.Space.{inner}
use Rattle.tui_input.specs.Input.{InputData, bare_input, cursor_in, input_after, input_layers}
use Rattle.tui_lists.specs.List.{ListData, list_after, list_of}
use Rattle.tui_lists.specs.ListStrokes.{list_layers}
use Rattle.tui_lists.specs.declared.list.state.ListState.{ListState}
use Rattle.tui_text.specs.Line.{raw_line}

-- whether a screen has room for a form
abbrev pub has_room : Rect → Bool
has_room area = nat_lt 11 area.width && nat_lt 3 area.height

-- ---- the list of the fields

-- borders on all sides, and a title
abbrev pub titled_block : List ℕ → BlockData
titled_block title = record (block_of 15) { titles = record { line = raw_line title; position = None } ∷ [] }

-- the fields in a block with the title; the focused one is marked
abbrev pub form_list : FormData → ListData
form_list f = record (list_of (items_from f.reported f.focus 0 f.fields)) { block = Some (titled_block f.title); symbol = Some (raw_line (codes "> ")) }

-- it selects the focused field
abbrev pub list_state : FormData → ListState
list_state f = record { offset = f.offset; selected = Some f.focus }

abbrev pub inside : FormData → Rect → Rect
inside f area = inner (titled_block f.title) area

-- the first field that is drawn in an area
abbrev pub offset_in : FormData → Rect → ℕ
offset_in f area = (list_after (form_list f) (inside f area) (list_state f)).offset

-- ---- the text that is typed

-- the row of the focused field's value, in a list that begins with field `offset`: below its label, beside the
-- highlight symbol and indented by two columns
abbrev pub value_row : Rect → ℕ → ℕ → Rect
value_row inside offset focus = columns_from (rows_from inside (min (2 * (focus - offset) + 1) inside.height) 1) 4 inside.width

abbrev pub row_in : FormData → Rect → Rect
row_in f area = value_row (inside f area) (offset_in f area) f.focus

-- the same for a form that has been drawn
abbrev pub focused_row : FormData → Rect → Rect
focused_row f area = value_row (inside f area) f.offset f.focus

-- an input of a text, masked by stars or not
abbrev pub text_input : Bool → InputData
text_input is_masked = record bare_input { mask = if is_masked then Some (codes "*") else None }

-- A text is drawn over its row as an input, which scrolls so that its cursor is visible. Other values have been drawn
-- by the list.
abbrev pub typed_layers : Rect → ValueData → List Layer
typed_layers row (typed_value text is_masked) = input_layers (text_input is_masked) text row
typed_layers row _ = []

abbrev pub value_drawn : Rect → ValueData → ValueData
value_drawn row (typed_value text is_masked) = typed_value (input_after (text_input is_masked) row text) is_masked
value_drawn row value = value

abbrev pub value_cursor : Rect → ValueData → Option Position
value_cursor row (typed_value text is_masked) = cursor_in (text_input is_masked) row text
value_cursor row _ = None

-- ---- both

abbrev pub field_drawn : Rect → FieldData → FieldData
field_drawn row f = record f { value = value_drawn row f.value }

-- the strokes over the row of the field at an index
abbrev pub layers_over : Rect → List FieldData → ℕ → List Layer
layers_over row fields place = option_map_or (λ f. typed_layers row f.value) (slice_get fields place) []

-- and where the cursor is shown there
abbrev pub cursor_over : Rect → List FieldData → ℕ → Option Position
cursor_over row fields place = option_map_or (λ f. value_cursor row f.value) (slice_get fields place) None

-- a form's strokes
abbrev pub form_layers : FormData → Rect → List Layer
form_layers f area = list_layers (form_list f) (list_state f) area ++ layers_over (row_in f area) f.fields f.focus

-- a form after a drawing: the list and the focused text have scrolled
abbrev pub form_drawn : FormData → Rect → FormData
form_drawn f area = record f { offset = offset_in f area; fields = changed_at (field_drawn (row_in f area)) f.focus f.fields }

-- A form on a screen, whose far edges are at most 65535: its strokes on blank cells, and the cursor of a focused text.
pub record ShowsForm (f : FormData) (screen : Screen) (place : Option Position) (new : FormData) : Type 0 where
  pub right : screen.area.x + screen.area.width ≤ farthest_edge
  pub bottom : screen.area.y + screen.area.height ≤ farthest_edge
  pub cells : (x y : ℕ) → covers screen.area x y ≡ true → cell_at screen x y ≡ Some (layers_at (form_layers f screen.area) x y blank)
  pub new_is : new ≡ form_drawn f screen.area
  pub cursor : place ≡ cursor_over (row_in f screen.area) new.fields new.focus

-- the form if there is room, and `too small` otherwise
pub record FormDraws (f : FormData) (screen : Screen) (place : Option Position) (new : FormData) : Type 0 where
  pub shows : has_room screen.area ≡ true → ShowsForm f screen place new
  pub other : has_room screen.area ≡ false → DrawsTooSmall screen
  pub stays : has_room screen.area ≡ false → new ≡ f
  pub hidden : has_room screen.area ≡ false → place ≡ None
