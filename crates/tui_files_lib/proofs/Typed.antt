-- The cursor of the filter is visible.
use Rattle.std.proofs.Common.{◌≡◌, ℕ, ◌+◌, ◌<◌, ◌≤◌, true, false, Option, None, sym, ap, ap₂, ◌∙◌, subst, arith}
use Rattle.std.specs.Prelude.{IsSome}
use Rattle.std.proofs.lemmas.Bool.Decides.{nat_tests}
use Rattle.tui_cells.specs.Buffer.{IsScreen, Screen}
use Rattle.tui_cells.specs.Layers.{KeptOutside, Painted}
use Rattle.tui_cells.specs.Rect.{covers, intersection_of}
use Rattle.tui_cells.specs.declared.position.Position.{Position}
use Rattle.tui_cells.specs.declared.rect.Rect.{Rect}
use Rattle.tui_cells.proofs.Painting.{KeptOutside-then, KeptOutside-weaker, Painted-kept}
use Rattle.tui_cells.proofs.Regions.{outside_both}
use Rattle.tui_files_lib.specs.Drawing.{DrawsFilter, ShowsNames, TypesIn, has_room, filter_area, status_area}
use Rattle.tui_files_lib.specs.declared.browser.Browser.{Browser}
use Rattle.tui_frames.specs.InBlock.{inner_of}
use Rattle.tui_input.specs.Input.{InputData, InputMoves, bare_input, cursor_in, has_cell, input_after, input_layers}
use Rattle.tui_input.specs.InputStays.{input_stays}
use Rattle.tui_input.specs.State.{TypedText}
use Rattle.tui_lists.specs.List.{ListData}
use Rattle.tui_lists.specs.declared.list.state.ListState.{ListState}

rect_at : ℕ → ℕ → ℕ → ℕ → Rect
rect_at x y w h = record { x = x; y = y; width = w; height = h }

wide_of : (area : Rect) → has_room area ≡ true → 11 < area.width
wide_of area room = grind (arith, nat_tests)

high_of : (area : Rect) → has_room area ≡ true → 4 < area.height
high_of area room = grind (arith, nat_tests)

-- the filter's area is within the screen's
clip_is : (area : Rect) → has_room area ≡ true → area.x + area.width ≤ 65535 → area.y + area.height ≤ 65535 →
    intersection_of (filter_area area) area ≡ filter_area area
unfolding rect_at
clip_is area room right bottom =
    let wide = wide_of area room in
    let high = high_of area room in
    let n = filter_area area in
    let c = intersection_of n area in
    let x : c.x ≡ n.x = omega arith in
    let y : c.y ≡ n.y = omega arith in
    let w : c.width ≡ n.width = omega arith in
    let h : c.height ≡ n.height = omega arith in
    ap₂ (λ (p q : ℕ). rect_at p q c.width c.height) x y ∙ ap₂ (rect_at n.x n.y) w h

cell_of : (r : Rect) → 0 < r.width → 0 < r.height → r.x + r.width ≤ 65535 → r.y + r.height ≤ 65535 → covers r r.x r.y ≡ true
cell_of r some high right bottom = grind (arith, nat_tests)

-- and has a cell
has_filter_cell : (area : Rect) → has_room area ≡ true → area.x + area.width ≤ 65535 → area.y + area.height ≤ 65535 → has_cell (filter_area area) ≡ true
has_filter_cell area room right bottom =
    let wide = wide_of area room in
    let high = high_of area room in
    let n = filter_area area in
    cell_of n (omega arith) (omega arith) (omega arith) (omega arith)

seen_in : (area : Rect) (was is : TypedText) (place : Option Position) → has_room area ≡ true → area.x + area.width ≤ 65535 → area.y + area.height ≤ 65535 →
    TypesIn (filter_area area) area was is place → IsSome place
seen_in area was is place room right bottom is_typing =
    let moves = subst (λ (r : Rect). InputMoves bare_input r was is) (clip_is area room right bottom) is_typing.moves in
    subst (λ (o : Option Position). IsSome o) (sym is_typing.cursor) (moves.seen (has_filter_cell area room right bottom))

state_in : (area : Rect) (was is : TypedText) (place : Option Position) → has_room area ≡ true → area.x + area.width ≤ 65535 → area.y + area.height ≤ 65535 →
    TypesIn (filter_area area) area was is place → is ≡ input_after bare_input (filter_area area) was
state_in area was is place room right bottom is_typing =
    is_typing.state ∙ ap (λ (r : Rect). input_after bare_input r was) (clip_is area room right bottom)

-- the filter is typed on a screen of this area, however it was painted before
pub draws_filter : (old new : Browser) (a b c d : Screen) (area : Rect) (place : Option Position) → area ≡ a.area → IsScreen a → has_room a.area ≡ true →
    b.area ≡ a.area → c.area ≡ b.area → d.area ≡ c.area → (old.is_typing ≡ true → TypesIn (filter_area area) c.area old.filter_text new.filter_text place) →
    (old.is_typing ≡ false → (place ≡ None) × (new.filter_text ≡ old.filter_text)) → DrawsFilter old d place new
draws_filter old new a b c d area place area_is shape room first second third typed other =
    let here : a.area ≡ d.area = sym (third ∙ (second ∙ first)) in
    let is_typing : old.is_typing ≡ true → TypesIn (filter_area a.area) a.area old.filter_text new.filter_text place = λ yes_typed.
    subst (λ (r : Rect). TypesIn (filter_area a.area) r old.filter_text new.filter_text place) (second ∙ first)
    (subst (λ (r : Rect). TypesIn (filter_area r) c.area old.filter_text new.filter_text place) area_is (typed yes_typed)) in
    let cursor : old.is_typing ≡ true → (place ≡ cursor_in bare_input (filter_area a.area) new.filter_text) × IsSome place = λ yes_typed.
    ((is_typing yes_typed).cursor, seen_in a.area old.filter_text new.filter_text place room shape.right shape.bottom (is_typing yes_typed)) in
    let state : old.is_typing ≡ true → new.filter_text ≡ input_after bare_input (filter_area a.area) old.filter_text = λ yes_typed.
    state_in a.area old.filter_text new.filter_text place room shape.right shape.bottom (is_typing yes_typed) in
    record {
      typed = λ yes_typed. (
        record {
          cursor = subst (λ (r : Rect). place ≡ cursor_in bare_input (filter_area r) new.filter_text) here (cursor yes_typed).0;
          seen = (cursor yes_typed).1;
        },
        subst (λ (r : Rect). new.filter_text ≡ input_after bare_input (filter_area r) old.filter_text) here (state yes_typed),
      );
      other = other;
    }

-- ---- the filter is drawn

-- it is in the last row
filter_below : (area : Rect) (x y : ℕ) → covers (status_area area) x y ≡ false → covers (filter_area area) x y ≡ false
filter_below area x y out = grind (arith, nat_tests)

-- and nothing changes outside that row, where a slash was written before
pub filter_kept : (i : InputData) (status inside area : Rect) (was : TypedText) (a b c : Screen) → i ≡ bare_input → status ≡ status_area area →
    inside ≡ filter_area area → KeptOutside (covers status) a b → Painted (input_layers i was (intersection_of inside b.area)) b c →
    KeptOutside (covers (status_area area)) a c
filter_kept i status inside area was a b c i_is status_is inside_is before painted =
    let drawn = subst (λ (r : Rect). Painted (input_layers bare_input was (intersection_of r b.area)) b c) inside_is
    (subst (λ (j : InputData). Painted (input_layers j was (intersection_of inside b.area)) b c) i_is painted) in
    let clip = intersection_of (filter_area area) b.area in
    let clipped : KeptOutside (covers clip) b c = Painted-kept (input_stays bare_input was clip) drawn in
    let filter_text : KeptOutside (covers (status_area area)) b c =
    KeptOutside-weaker (λ x y out. outside_both (filter_area area) b.area x y (filter_below area x y out)) clipped in
    KeptOutside-then (subst (λ (r : Rect). KeptOutside (covers r) a b) status_is before) filter_text

pub types_in : (i : InputData) (inside area : Rect) (was is : TypedText) (a b : Rect) (place : Option Position) → i ≡ bare_input → inside ≡ filter_area area →
    b ≡ a → is ≡ input_after i (inner_of i.block (intersection_of inside b)) was → place ≡ cursor_in i inside is →
    InputMoves i (intersection_of inside b) was is → TypesIn (filter_area area) a was is place
types_in i inside area was is a b place i_is inside_is same state cursor moves =
    subst (λ (r : Rect). TypesIn (filter_area area) r was is place) same
    (subst (λ (r : Rect). TypesIn r b was is place) inside_is (record {
      state = subst (λ (j : InputData). is ≡ input_after j (inner_of j.block (intersection_of inside b)) was) i_is state;
      cursor = subst (λ (j : InputData). place ≡ cursor_in j inside is) i_is cursor;
      moves = subst (λ (j : InputData). InputMoves j (intersection_of inside b) was is) i_is moves;
    }))

-- the names stay visible when the filter is drawn
pub still_shows : (l m : ListData) (was is then_is : ListState) (d : Screen) → l ≡ m → is ≡ then_is → ShowsNames m was then_is d → ShowsNames l was is d
still_shows l m was is then_is d same stays shows =
    subst (λ (k : ListData). ShowsNames k was is d) (sym same) (subst (λ (s : ListState). ShowsNames m was s d) (sym stays) shows)
