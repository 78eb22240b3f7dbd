-- Drawing a form twice gives the same screen.
use Rattle.std.proofs.Common.{◌≡◌, ℕ, ◌+◌, ◌-◌, ◌<◌, min, zero, suc, Bool, true, false, List, [], ◌∷◌, ◌++◌, Option, Some, length, refl, sym, ap, ap₂, ◌∙◌, arith}
use Rattle.std.proofs.lemmas.Bool.Decides.{nat_tests}
use Rattle.std.proofs.lemmas.List.{length-map}
use Rattle.std.specs.Prelude.{◌==◌, if◌then◌else◌}
use Rattle.tui_cells.specs.Cell.{set_style}
use Rattle.tui_cells.specs.Layers.{Layer, stroke}
use Rattle.tui_cells.specs.Rect.{covers, is_empty}
use Rattle.tui_cells.specs.declared.rect.Rect.{Rect}
use Rattle.tui_form_lib.proofs.Changed.{length-changed_at, read_past}
use Rattle.tui_form_lib.proofs.Listed.{length-items}
use Rattle.tui_form_lib.specs.Drawing.{
  field_drawn,
  form_drawn,
  form_layers,
  form_list,
  inside,
  layers_over,
  list_state,
  offset_in,
  row_in,
  text_input,
  titled_block,
  typed_layers,
  value_drawn,
  value_row,
}
use Rattle.tui_form_lib.specs.Field.{FieldData}
use Rattle.tui_form_lib.specs.Form.{FormData}
use Rattle.tui_form_lib.specs.Lines.{field_item, is_reported, items_from, label_line, value_line}
use Rattle.tui_form_lib.specs.Steps.{IsFocused, changed_at}
use Rattle.tui_form_lib.specs.Value.{ValueData, check, choice, typed_value}
use Rattle.tui_frames.specs.InBlock.{block_layers_if}
use Rattle.tui_input.specs.Input.{InputData, has_cell, room_of, text_layers}
use Rattle.tui_input.specs.InputSettles.{input_settles}
use Rattle.tui_input.specs.Scroll.{scrolled}
use Rattle.tui_input.specs.State.{TypedText}
use Rattle.tui_lists.proofs.ListMoved.{list_moves}
use Rattle.tui_lists.proofs.ListShown.{redraw_keeps_strokes}
use Rattle.tui_lists.specs.List.{ListData, list_after}
use Rattle.tui_lists.specs.ListItem.{ListItemData, heights_of, item_height}
use Rattle.tui_lists.specs.ListIdempotence.{list_is_idempotent}
use Rattle.tui_lists.specs.ListStrokes.{content_layers, list_layers}
use Rattle.tui_lists.specs.declared.list.state.ListState.{ListState}
use Rattle.tui_text.specs.Line.{LineData}

-- ---- the list

-- the list shows nothing of the focused text
line_same : (row : Rect) (v : ValueData) → value_line true (value_drawn row v) ≡ value_line true v
line_same row (typed_value s m) = refl
line_same row (choice texts chosen) = refl
line_same row (check is_on) = refl

item_with : Bool → FieldData → LineData → ListItemData
item_with reported f line = let item = field_item reported true f in record item { content = record item.content { lines = label_line reported f ∷ line ∷ [] } }

item_same : (row : Rect) (reported is_focused : Bool) (f : FieldData) → is_focused ≡ true → field_item reported is_focused (field_drawn row f) ≡ field_item reported is_focused f
unfolding item_with
item_same row reported true f e = ap (item_with reported f) (line_same row f.value)
item_same row reported false f e = cc

items_same : (row : Rect) (reported : Option ℕ) (focus k i : ℕ) (fs : List FieldData) → k + i ≡ focus →
    items_from reported focus k (changed_at (field_drawn row) i fs) ≡ items_from reported focus k fs
items_same row reported focus k i [] e = refl
items_same row reported focus k zero (f ∷ fs) e =
    let here : (k == focus) ≡ true = grind (arith, nat_tests) in
    ap (λ (item : ListItemData). item ∷ items_from reported focus (k + 1) fs) (item_same row (is_reported reported k) (k == focus) f here)
items_same row reported focus k (suc i) (f ∷ fs) e =
    ap (λ (is : List ListItemData). field_item (is_reported reported k) (k == focus) f ∷ is) (items_same row reported focus (k + 1) i fs (omega arith))

list_of_items : FormData → List ListItemData → ListData
list_of_items f items = record (form_list f) { items = items }

list_same : (f : FormData) (area : Rect) → form_list (form_drawn f area) ≡ form_list f
unfolding list_of_items
list_same f area = ap (list_of_items f) (items_same (row_in f area) f.reported f.focus 0 f.focus f.fields (omega arith))

state_at : ℕ → Option ℕ → ListState
state_at offset selected = record { offset = offset; selected = selected }

not_empty : (r : Rect) → 0 < r.width → 0 < r.height → is_empty r ≡ false
not_empty r some high = grind (arith, nat_tests)

-- the list's state after its drawing
pub selected_at : (f : FormData) (area : Rect) → is_empty (inside f area) ≡ false → f.focus < length f.fields →
    (list_after (form_list f) (inside f area) (list_state f)).selected ≡ Some f.focus
selected_at f area some focused =
    let l = form_list f in
    let count : length l.items ≡ length f.fields = length-items f.reported f.focus 0 f.fields in
    let items : 0 < length l.items = omega arith in
    let moves = list_moves l (inside f area) (list_state f) (list_after l (inside f area) (list_state f)) refl in
    let cut : min f.focus (length (heights_of l.items) - 1) ≡ f.focus = omega (arith, length-map l.items item_height) in
    moves.selected some items ∙ ap (λ (n : ℕ). Some n) cut

state_is : (f : FormData) (area : Rect) → is_empty (inside f area) ≡ false → f.focus < length f.fields →
    list_after (form_list f) (inside f area) (list_state f) ≡ list_state (form_drawn f area)
unfolding state_at
state_is f area some focused = ap (state_at (offset_in f area)) (selected_at f area some focused)

offset_stays : (f : FormData) (area : Rect) → is_empty (inside f area) ≡ false → f.focus < length f.fields →
    offset_in (form_drawn f area) area ≡ offset_in f area
offset_stays f area some focused =
    let l = form_list f in
    let r = inside f area in
    ap (λ (s : ListState). s.offset) (ap₂ (λ (m : ListData) (s : ListState). list_after m r s) (list_same f area) (sym (state_is f area some focused))
    ∙ list_is_idempotent l (list_state f) r)

strokes_same : (f : FormData) (area : Rect) → is_empty (inside f area) ≡ false → f.focus < length f.fields →
    list_layers (form_list (form_drawn f area)) (list_state (form_drawn f area)) area ≡ list_layers (form_list f) (list_state f) area
strokes_same f area some focused =
    ap₂ (λ (l : ListData) (s : ListState). list_layers l s area) (list_same f area) (sym (state_is f area some focused))
    ∙ redraw_keeps_strokes (form_list f) (list_state f) area

-- ---- the text over it

content_by : (i : InputData) (inner : Rect) (s : TypedText) (b : Bool) →
    (if b then scrolled i.mask (room_of inner) (if b then scrolled i.mask (room_of inner) s else s) else (if b then scrolled i.mask (room_of inner) s else s))
    ≡ (if b then scrolled i.mask (room_of inner) s else s) →
    (if b then text_layers i inner (scrolled i.mask (room_of inner) (if b then scrolled i.mask (room_of inner) s else s)) else [])
    ≡ (if b then text_layers i inner (scrolled i.mask (room_of inner) s) else [])
content_by i inner s true e = ap (text_layers i inner) e
content_by i inner s false e = refl

typed_same : (row : Rect) (v : ValueData) → typed_layers row (value_drawn row v) ≡ typed_layers row v
typed_same row (typed_value s m) =
    let i = text_input m in
    ap (λ (ls : List Layer). stroke (covers row) (set_style i.style) ++ (block_layers_if i.block row ++ ls))
    (content_by i row s (has_cell row) (input_settles i s row))
typed_same row (choice texts chosen) = refl
typed_same row (check is_on) = refl

over_same : (row : Rect) (fs : List FieldData) (i : ℕ) → layers_over row (changed_at (field_drawn row) i fs) i ≡ layers_over row fs i
over_same row [] i = refl
over_same row (f ∷ fs) zero = typed_same row f.value
over_same row (f ∷ fs) (suc i) = over_same row fs i

-- ---- both

focused_same : (f : FormData) (area : Rect) → is_empty (inside f area) ≡ false → f.focus < length f.fields → form_layers (form_drawn f area) area ≡ form_layers f area
focused_same f area some focused =
    let g = form_drawn f area in
    let row : row_in g area ≡ row_in f area = ap (λ (o : ℕ). value_row (inside f area) o f.focus) (offset_stays f area some focused) in
    let over = ap (λ (r : Rect). layers_over r g.fields g.focus) row ∙ over_same (row_in f area) f.fields f.focus in
    ap₂ (λ (a b : List Layer). a ++ b) (strokes_same f area some focused) over

content_empty : (l : ListData) (inner : Rect) (s : ListState) → length l.items ≡ 0 → content_layers l inner s ≡ []
unfolding content_layers
content_empty l inner s none =
    let e : (length l.items == 0) ≡ true = grind (arith, nat_tests) in
    rw e refl

empty_same : (f : FormData) (area : Rect) → length f.fields ≡ 0 → form_layers (form_drawn f area) area ≡ form_layers f area
empty_same f area none =
    let g = form_drawn f area in
    let fewer : length g.fields ≡ 0 = length-changed_at (field_drawn (row_in f area)) f.focus f.fields ∙ none in
    let items_f : length (form_list f).items ≡ 0 = length-items f.reported f.focus 0 f.fields ∙ none in
    let items_g : length (form_list g).items ≡ 0 = length-items f.reported f.focus 0 g.fields ∙ fewer in
    let content = content_empty (form_list g) (inside f area) (list_state g) items_g ∙ sym (content_empty (form_list f) (inside f area) (list_state f) items_f) in
    let list = ap (λ (ls : List Layer). stroke (covers area) (set_style (form_list f).style) ++ (block_layers_if (Some (titled_block f.title)) area ++ ls)) content in
    let over_g = read_past (λ (x : FieldData). typed_layers (row_in g area) x.value) [] g.fields g.focus (omega arith) in
    let over_f = read_past (λ (x : FieldData). typed_layers (row_in f area) x.value) [] f.fields f.focus (omega arith) in
    ap₂ (λ (a b : List Layer). a ++ b) list (over_g ∙ sym over_f)

by_count : (f : FormData) (area : Rect) (n : ℕ) → length f.fields ≡ n → is_empty (inside f area) ≡ false → IsFocused f →
    form_layers (form_drawn f area) area ≡ form_layers f area
by_count f area zero count some focused = empty_same f area count
by_count f area (suc n) count some focused = focused_same f area some (focused (omega arith))

-- a form draws the same strokes after a drawing as before it
pub layers_settle : (f : FormData) (area : Rect) → is_empty (inside f area) ≡ false → IsFocused f → form_layers (form_drawn f area) area ≡ form_layers f area
layers_settle f area some focused = by_count f area (length f.fields) refl some focused
