-- The focused field is visible, whatever events led to the form.
use Rattle.std.proofs.Common.{◌≡◌, ℕ, ◌+◌, ◌-◌, ◌*◌, ◌<◌, ◌≤◌, zero, suc, Bool, true, false, List, [], ◌∷◌, Option, None, Some, option_map, length, refl, sym, ap, subst, ◌∙◌, arith}
use Rattle.std.proofs.lemmas.Bool.Decides.{nat_tests}
use Rattle.std.proofs.lemmas.List.{length-map}
use Rattle.std.specs.List.{position_or_len, slice_get}
use Rattle.std.specs.Prelude.{IsSome, nat_lt, if◌then◌else◌}
use Rattle.tui_app.specs.EventLoop.{EventLoop, LoopState, Takes, drew, events_of_read, joined, iterated}
use Rattle.tui_app.specs.declared.app.Flow.{Flow}
use Rattle.tui_app.specs.declared.app.Flow.TheVariants.{Go, Redraw, Quit}
use Rattle.tui_app_laws.specs.Showing.{WaitingShows}
use Rattle.tui_cells.specs.Buffer.{Screen, cell_at}
use Rattle.tui_cells.specs.Cell.{blank}
use Rattle.tui_cells.specs.Layers.{Layer, layers_at}
use Rattle.tui_cells.specs.Rect.{covers, is_empty}
use Rattle.tui_cells.specs.declared.position.Position.{Position}
use Rattle.tui_cells.specs.declared.rect.Rect.{Rect}
use Rattle.tui_form_lib.proofs.Changed.{length-changed_at}
use Rattle.tui_form_lib.proofs.Drawn.{high_of, is_inside, wide_of}
use Rattle.tui_form_lib.proofs.Listed.{length-items, low, rows_of}
use Rattle.tui_form_lib.proofs.Settled.{layers_settle, selected_at}
use Rattle.tui_form_lib.specs.FormAction.{action}
use Rattle.tui_form_lib.specs.Drawing.{
  FormDraws,
  ShowsForm,
  cursor_over,
  field_drawn,
  focused_row,
  form_drawn,
  form_layers,
  form_list,
  has_room,
  inside,
  list_state,
  offset_in,
  row_in,
  text_input,
  value_cursor,
  value_drawn,
  value_row,
}
use Rattle.tui_form_lib.specs.Field.{FieldData, is_missing}
use Rattle.tui_form_lib.specs.Form.{FormData, form_data}
use Rattle.tui_form_lib.specs.Laws.{FocusIsSeen, FormIsShown, IsShownIn, focused_value, form_behaviour}
use Rattle.tui_form_lib.specs.Lines.{items_from}
use Rattle.tui_form_lib.specs.Steps.{IsFocused, accepting, after_event, changed_at, field_after, first_missing, performed, skipped, taken, takes}
use Rattle.tui_form_lib.specs.Value.{ValueData, check, choice, place_before, place_after, typed_value}
use Rattle.tui_form_lib.specs.declared.actions.FormAction.{FormAction}
use Rattle.tui_form_lib.specs.declared.actions.FormAction.TheVariants as actions
use Rattle.tui_form_lib.specs.declared.form.Form.{Form}
use Rattle.tui_input.proofs.InputMoved.{input_moves}
use Rattle.tui_input.specs.Input.{has_cell, input_after}
use Rattle.tui_input.specs.Scroll.{cursor_column}
use Rattle.tui_input.specs.State.{TypedText}
use Rattle.tui_keys.specs.declared.event.Event.{Event}
use Rattle.tui_layout.specs.Sums.{total}
use Rattle.tui_lists.proofs.ListMoved.{list_moves}
use Rattle.tui_lists.specs.List.{IsSeen, list_after}
use Rattle.tui_lists.specs.ListItem.{heights_of, item_height}
use Rattle.tui_terminal_model.specs.declared.output.Output.{Output}

-- ---- a field has the focus, from event to event and from read to read

after_within : (n place : ℕ) → 0 < n → place_after n (Some place) < n
after_within n place some = grind (arith, nat_tests)

before_within : (n place : ℕ) → 0 < n → place_before n (Some place) < n
before_within n place some = grind (arith, nat_tests)

accepting_focused : (f : FormData) (found : Option ℕ) → ((place : ℕ) → found ≡ Some place → place < length f.fields) → IsFocused f → IsFocused (accepting f found)
accepting_focused f None within focused = focused
accepting_focused f (Some place) within focused = λ some. within place refl

first_within_if : (b : Bool) (place n other : ℕ) → nat_lt place n ≡ b → (if b then Some place else None) ≡ Some other → other < n
first_within_if true place n other lt is =
    let same : place ≡ other = cc in
    let here : place < n = grind (arith, nat_tests) in
    subst (λ (p : ℕ). p < n) same here
first_within_if false place n other lt is = cc

first_within : (fields : List FieldData) (place : ℕ) → first_missing fields ≡ Some place → place < length fields
first_within fields place is =
    first_within_if (nat_lt (position_or_len is_missing fields) (length fields)) (position_or_len is_missing fields) (length fields) place refl is

obeyed_focused : (f : FormData) (a : FormAction) → IsFocused f → IsFocused (performed f a)
obeyed_focused f actions.Nothing focused = focused
obeyed_focused f actions.Next focused = λ some. after_within (length f.fields) f.focus some
obeyed_focused f actions.Previous focused = λ some. before_within (length f.fields) f.focus some
obeyed_focused f actions.Accept focused = accepting_focused f (first_missing f.fields) (first_within f.fields) focused
obeyed_focused f actions.Leave focused = focused
obeyed_focused f actions.Redraw focused = focused
obeyed_focused f actions.Skip focused = focused

changed_focused : (f : FormData) (change : FieldData → FieldData) → IsFocused f → 0 < length (changed_at change f.focus f.fields) →
    f.focus < length (changed_at change f.focus f.fields)
changed_focused f change focused some =
    let same = length-changed_at change f.focus f.fields in
    let here : f.focus < length f.fields = focused (subst (λ (n : ℕ). 0 < n) same some) in
    subst (λ (n : ℕ). f.focus < n) (sym same) here

chosen_focused : (b : Bool) (x y : FormData) → IsFocused x → IsFocused y → IsFocused (if b then x else y)
chosen_focused true x y fx fy = fx
chosen_focused false x y fx fy = fy

after_focused : (f : FormData) (e : Event) → IsFocused f → IsFocused (after_event f e)
after_focused f e focused =
    chosen_focused f.is_skipping (skipped f e) (if takes f e then taken f e else performed f (action f.is_escaped e)) focused
    (chosen_focused (takes f e) (taken f e) (performed f (action f.is_escaped e)) (changed_focused f (field_after e) focused)
    (obeyed_focused f (action f.is_escaped e) focused))

takes_focused : (es : List Event) (flow last : Flow) (old new : Form) → IsFocused (form_data old) → Takes form_behaviour old flow es new last → IsFocused (form_data new)
takes_focused es Quit last old new focused h = subst (λ (a : Form). IsFocused (form_data a)) (sym h.0) focused
takes_focused [] Go last old new focused h = subst (λ (a : Form). IsFocused (form_data a)) (sym h.0) focused
takes_focused [] Redraw last old new focused h = subst (λ (a : Form). IsFocused (form_data a)) (sym h.0) focused
takes_focused (e ∷ es) Go last old new focused h =
    takes_focused es (joined Go h.1) last h.0 new (subst IsFocused (sym h.2.0) (after_focused (form_data old) e focused)) h.3
takes_focused (e ∷ es) Redraw last old new focused h =
    takes_focused es (joined Redraw h.1) last h.0 new (subst IsFocused (sym h.2.0) (after_focused (form_data old) e focused)) h.3

-- a drawing keeps a field focused
drawn_if : (f new : FormData) (screen : Screen) (place : Option Position) (room : Bool) → has_room screen.area ≡ room → FormDraws f screen place new → IsFocused f → IsFocused new
drawn_if f new screen place true room drawn focused =
    subst IsFocused (sym (drawn.shows room).new_is) (changed_focused f (field_drawn (row_in f screen.area)) focused)
drawn_if f new screen place false room drawn focused = subst IsFocused (sym (drawn.stays room)) focused

-- a form that was drawn last, and its focus
record WasDrawn (state : LoopState Form) : Type 0 where
  before : FormData
  had_focus : IsFocused before
  draws : FormDraws before state.screen state.place (form_data state.app)
  focused : IsFocused (form_data state.app)

was_drawn : (begin : Form) (area : Rect) (reads : List (List ℕ)) (state : LoopState Form) → IsFocused (form_data begin) →
    EventLoop form_behaviour begin area reads state → WasDrawn state
was_drawn begin area _ _ focused (drew state is) = record {
  before = form_data begin;
  had_focus = focused;
  draws = is.draws;
  focused = drawn_if (form_data begin) (form_data state.app) state.screen state.place (has_room state.screen.area) refl is.draws focused;
}
was_drawn begin area _ _ focused (iterated reads bytes flow old new event_loop turn) =
    let earlier = was_drawn begin area reads old focused event_loop in
    let moved = takes_focused (events_of_read old.keys bytes) Go flow old.app turn.moved earlier.focused turn.takes in
    record {
      before = form_data turn.moved;
      had_focus = moved;
      draws = turn.draws;
      focused = drawn_if (form_data turn.moved) (form_data new.app) new.screen new.place (has_room new.screen.area) refl turn.draws moved;
    }

-- ---- what is visible

not_empty : (r : Rect) → 0 < r.width → 0 < r.height → is_empty r ≡ false
not_empty r some high = grind (arith, nat_tests)

inside_some : (f : FormData) (area : Rect) → 11 < area.width → 3 < area.height → area.x + area.width ≤ 65535 → area.y + area.height ≤ 65535 →
    is_empty (inside f area) ≡ false
inside_some f area w h wide high =
    let fits = is_inside f.title area w h wide high in
    let width = fits.width in
    let height = fits.height in
    not_empty (inside f area) (omega arith) (omega arith)

-- the list draws the focused field
list_seen : (f : FormData) (area : Rect) → 11 < area.width → 3 < area.height → area.x + area.width ≤ 65535 → area.y + area.height ≤ 65535 →
    f.focus < length f.fields → IsSeen (heights_of (form_list f).items) (inside f area).height (offset_in f area) f.focus
list_seen f area w h wide high focused =
    let l = form_list f in
    let r = inside f area in
    let some = inside_some f area w h wide high in
    let count : length l.items ≡ length f.fields = length-items f.reported f.focus 0 f.fields in
    let items : 0 < length l.items = omega arith in
    let fits = is_inside f.title area w h wide high in
    let high_ = fits.height in
    let moves = list_moves l r (list_state f) (list_after l r (list_state f)) refl in
    moves.seen some items f.focus (selected_at f area some focused) (omega (arith, low f.reported f.focus 0 f.fields f.focus))

-- the row of the focused value has a cell
row_has_cell : (f : FormData) (area : Rect) (offset : ℕ) → 11 < area.width → 3 < area.height → area.x + area.width ≤ 65535 → area.y + area.height ≤ 65535 →
    IsSeen (heights_of (form_list f).items) (inside f area).height offset f.focus → has_cell (value_row (inside f area) offset f.focus) ≡ true
row_has_cell f area offset w h wide high seen =
    let r = inside f area in
    let row = value_row r offset f.focus in
    let fits = is_inside f.title area w h wide high in
    let rx = fits.x in
    let ry = fits.y in
    let rw_ = fits.width in
    let rh = fits.height in
    let from = seen.from_offset in
    let to = seen.before_last in
    let last = seen.last in
    let within : last ≤ length f.fields = omega (arith, seen.within, length-map (form_list f).items item_height, length-items f.reported f.focus 0 f.fields) in
    let rows : 2 * offset + total (heights_of (form_list f).items) offset last ≡ 2 * last = rows_of f.reported f.focus f.fields offset last (omega arith) within in
    let below : 2 * (f.focus - offset) + 1 < r.height = omega (arith, seen.fits) in
    let x : row.x ≡ r.x + 4 = omega arith in
    let width : row.width + 4 ≡ r.width = omega arith in
    let y : row.y ≡ r.y + (2 * (f.focus - offset) + 1) = omega arith in
    let height : row.height ≡ 1 = omega arith in
    let far : r.y + r.height < 65535 = omega arith in
    cell_of row (omega arith) (omega arith) (omega arith) (omega arith)
  where
    cell_of : (row : Rect) → 0 < row.width → 0 < row.height → row.x < 65535 → row.y < 65535 → has_cell row ≡ true
    cell_of row some high left top = grind (arith, nat_tests)

shown_if : (row : Rect) (x : ℕ) (place : Option Position) (b : Bool) → covers row x row.y ≡ b →
    place ≡ (if b then Some (record { x = x; y = row.y }) else None) → IsSome {T = Position} (if b then Some (record { x = x; y = row.y }) else None) → IsShownIn row place
shown_if row x place true here is seen = record { at = record { x = x; y = row.y }; place_is = is; within = here }
shown_if row x place false here is seen = cc

-- the cursor of a text that was drawn
text_shown : (row : Rect) (s : TypedText) (is_masked : Bool) (place : Option Position) → has_cell row ≡ true →
    place ≡ value_cursor row (value_drawn row (typed_value s is_masked)) → IsShownIn row place
text_shown row s is_masked place some is =
    let i = text_input is_masked in
    let t = input_after i row s in
    let moves = input_moves i row s t refl in
    let x = row.x + cursor_column i.mask t in
    shown_if row x place (covers row x row.y) refl is (moves.seen some)

-- a value that is a text after drawing was a text before
value_shown : (row : Rect) (v : ValueData) (text : TypedText) (is_masked : Bool) (place : Option Position) → has_cell row ≡ true →
    value_drawn row v ≡ typed_value text is_masked → place ≡ value_cursor row (value_drawn row v) → IsShownIn row place
value_shown row (typed_value s m) text is_masked place some is cursor = text_shown row s m place some cursor
value_shown row (choice texts chosen) text is_masked place some is cursor = cc
value_shown row (check is_on) text is_masked place some is cursor = cc

fields_shown : (row : Rect) (fs : List FieldData) (i : ℕ) (text : TypedText) (is_masked : Bool) (place : Option Position) → has_cell row ≡ true →
    option_map (λ (f : FieldData). f.value) (slice_get (changed_at (field_drawn row) i fs) i) ≡ Some (typed_value text is_masked) →
    place ≡ cursor_over row (changed_at (field_drawn row) i fs) i → IsShownIn row place
fields_shown row [] i text is_masked place some is cursor = cc
fields_shown row (f ∷ fs) zero text is_masked place some is cursor = value_shown row f.value text is_masked place some (cc) cursor
fields_shown row (f ∷ fs) (suc i) text is_masked place some is cursor = fields_shown row fs i text is_masked place some is cursor

-- a drawing keeps the heights of the items
same_heights : (reported : Option ℕ) (focus k : ℕ) (change : FieldData → FieldData) (i : ℕ) (fs : List FieldData) →
    heights_of (items_from reported focus k (changed_at change i fs)) ≡ heights_of (items_from reported focus k fs)
same_heights reported focus k change i [] = refl
same_heights reported focus k change zero (f ∷ fs) = refl
same_heights reported focus k change (suc i) (f ∷ fs) = ap (λ (hs : List ℕ). 2 ∷ hs) (same_heights reported focus (k + 1) change i fs)

has_within : (fs : List FieldData) (i : ℕ) (v : ValueData) → option_map (λ (f : FieldData). f.value) (slice_get fs i) ≡ Some v → i < length fs
has_within [] i v is = cc
has_within (f ∷ fs) zero v is = omega arith
has_within (f ∷ fs) (suc i) v is = let rest : i < length fs = has_within fs i v is in omega arith

-- ---- a form that was drawn

abbrev HasItsCells : Screen → FormData → Type 0
HasItsCells screen f = (x y : ℕ) → covers screen.area x y ≡ true → cell_at screen x y ≡ Some (layers_at (form_layers f screen.area) x y blank)

abbrev IsListed : Rect → FormData → Type 0
IsListed area f = 0 < length f.fields → IsSeen (heights_of (form_list f).items) (inside f area).height f.offset f.focus

abbrev HasItsCursor : Rect → Option Position → FormData → Type 0
HasItsCursor area place f = (text : TypedText) (is_masked : Bool) → focused_value f ≡ Some (typed_value text is_masked) → IsShownIn (focused_row f area) place

focus_seen : (before f : FormData) (screen : Screen) (place : Option Position) → has_room screen.area ≡ true → IsFocused before → ShowsForm before screen place f →
    FocusIsSeen f screen place
focus_seen before f screen place room focused shows =
    let area = screen.area in
    let row = row_in before area in
    let w = wide_of area room in
    let h = high_of area room in
    let drawn = form_drawn before area in
    let count : length drawn.fields ≡ length before.fields = length-changed_at (field_drawn row) before.focus before.fields in
    let layers = layers_settle before area (inside_some before area w h shows.right shows.bottom) focused in
    let cells : HasItsCells screen drawn = λ x y here. shows.cells x y here ∙ ap (λ (ls : List Layer). Some (layers_at ls x y blank)) (sym layers) in
    let seen : before.focus < length before.fields → IsSeen (heights_of (form_list before).items) (inside before area).height (offset_in before area) before.focus =
    list_seen before area w h shows.right shows.bottom in
    let listed : IsListed area drawn = λ some.
    subst (λ (hs : List ℕ). IsSeen hs (inside before area).height (offset_in before area) before.focus)
    (sym (same_heights before.reported before.focus 0 (field_drawn row) before.focus before.fields)) (seen (focused (omega arith))) in
    let cursor : place ≡ cursor_over row drawn.fields before.focus = shows.cursor ∙ ap (λ (x : FormData). cursor_over row x.fields x.focus) shows.new_is in
    let shown : HasItsCursor area place drawn = λ text is_masked is.
    let within = has_within drawn.fields before.focus (typed_value text is_masked) is in
    fields_shown row before.fields before.focus text is_masked place
    (row_has_cell before area (offset_in before area) w h shows.right shows.bottom (seen (omega arith))) is cursor in
    record {
      cells = subst (HasItsCells screen) (sym shows.new_is) cells;
      focused = subst (IsListed area) (sym shows.new_is) listed;
      place_is = subst (λ (x : FormData). place ≡ cursor_over (focused_row x area) x.fields x.focus) (sym shows.new_is) cursor;
      cursor = subst (HasItsCursor area place) (sym shows.new_is) shown;
    }

pub form_is_shown : (o : Output) → WaitingShows form_behaviour o → FormIsShown o
form_is_shown o waits begin area state reads trace sent focused session =
    let present = waits begin area state reads trace sent session in
    let drawn = was_drawn begin area reads state focused present.event_loop in
    record {
      present = present;
      focused = drawn.focused;
      seen = λ room. focus_seen drawn.before (form_data state.app) state.screen state.place room drawn.had_focus (drawn.draws.shows room);
      other = drawn.draws.other;
    }
