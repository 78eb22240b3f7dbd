-- The state of a pager stays sound.
use Rattle.std.proofs.Common.{◌≡◌, ℕ, ◌-◌, ◌<◌, ◌≤◌, ◌==◌, min, List, [], ◌∷◌, length, refl, sym, ap, ◌∙◌, subst, arith, inl, inr, Option, None, Some}
use Rattle.std.specs.Prelude.{map, slice_index, if◌then◌else◌}
use Rattle.std.proofs.lemmas.List.{length-map}
use Rattle.std.proofs.lemmas.Bool.{cases_eq, cond-true, cond-false, eq-eqb, ne_eqb}
use Rattle.tui_layout.specs.Found.{window_of}
use Rattle.tui_layout.specs.Window.{IsWindow, cut_selection}
use Rattle.tui_layout.specs.Sums.{total}
use Rattle.tui_layout.specs.declared.window.Window.{Window}
use Rattle.tui_layout.proofs.Found.{window_is}
use Rattle.tui_layout.proofs.StableWindow.{window_is_stable, selected_is_shown}
use Rattle.tui_pager_lib.specs.Steps.{PagerMetrics, max_line_of, max_line_in, selected_by, line_by, moved_from, scrolled, first_entry, pressed, resized}
use Rattle.tui_frames.specs.InBlock.{inner_of}
use Rattle.tui_lists.specs.List.{list_window}
use Rattle.tui_lists.specs.ListItem.{heights_of, item_height}
use Rattle.tui_pager_lib.specs.Entry.{EntryData}
use Rattle.tui_pager_lib.specs.Pager.{PagerData}
use Rattle.tui_pager_lib.specs.Screen.{list_state, metrics_of, title_item, titles_area, titles_list}
use Rattle.tui_pager_lib.specs.Laws.{Call, press, resize, after_call, after_calls, initial_pager, SelectsEntry, IsSound, IsSoundPager, ShowsSelected, StaysSound, SelectedIsVisible}
use Rattle.tui_pager_lib.specs.declared.key.Key.{Key}
use Rattle.tui_pager_lib.specs.declared.key.Key.TheVariants.{Up, Down, PageUp, PageDown, First, Last, LineUp, LineDown, BodyTop, BodyEnd}
use Rattle.tui_pager_lib.specs.declared.state.PagerState.{PagerState}

-- a selection that is an index of the list is not changed
cut_none : (heights : List ℕ) (selected : Option ℕ) → SelectsEntry (length heights) selected → cut_selection heights selected ≡ selected
cut_none heights None p = refl
cut_none heights (Some place) p = let same : min place (length heights - 1) ≡ place = omega arith in ap Some same

-- scrolling to the selection twice is the same as once
is_scrolled_again : (heights : List ℕ) (rows offset : ℕ) (selected : Option ℕ) → SelectsEntry (length heights) selected
    → let first = (window_of heights rows offset selected 1).first in first ≡ (window_of heights rows first selected 1).first
is_scrolled_again heights rows offset selected p =
    let w = window_of heights rows offset selected 1 in
    let again = window_of heights rows w.first selected 1 in
    let is = window_is heights rows offset selected 1 in
    let is_again = window_is heights rows w.first selected 1 in
    ap (λ (k : Window). k.first)
    (sym (window_is_stable heights rows offset selected 1 w again is (subst (λ o. IsWindow heights rows w.first o 1 again) (sym (cut_none heights selected p)) is_again)))

scrolled_sound : (z : PagerMetrics) (s : PagerState) → SelectsEntry (length z.heights) s.selected → s.line ≤ max_line_of z s.selected → IsSound z (scrolled z.heights z.rows s)
scrolled_sound z s p l = record { place = p; line = l; is_scrolled = is_scrolled_again z.heights z.rows s.offset s.selected p }

place_stays : (rows count place : ℕ) (key : Key) → place < count → selected_by rows count key place < count
place_stays rows count place Up h = omega arith
place_stays rows count place Down h = omega arith
place_stays rows count place PageUp h = omega arith
place_stays rows count place PageDown h = omega arith
place_stays rows count place First h = omega arith
place_stays rows count place Last h = omega arith
place_stays rows count place LineUp h = h
place_stays rows count place LineDown h = h
place_stays rows count place BodyTop h = h
place_stays rows count place BodyEnd h = h

line_stays : (most line : ℕ) (key : Key) → line ≤ most → line_by most key line ≤ most
line_stays most line Up h = h
line_stays most line Down h = h
line_stays most line PageUp h = h
line_stays most line PageDown h = h
line_stays most line First h = h
line_stays most line Last h = h
line_stays most line LineUp h = omega arith
line_stays most line LineDown h = omega arith
line_stays most line BodyTop h = omega arith
line_stays most line BodyEnd h = omega arith

-- the first line of the body after a key
line_moved : (z : PagerMetrics) (place next line : ℕ) (key : Key) → line ≤ max_line_in z.rows (slice_index z.lines place)
    → (if next == place then line_by (max_line_in z.rows (slice_index z.lines place)) key line else 0) ≤ max_line_in z.rows (slice_index z.lines next)
line_moved z place next line key h =
    let most = max_line_in z.rows (slice_index z.lines place) in
    elim (cases_eq next place) [
      | inl same ↦
          (let e : (if next == place then line_by most key line else 0) ≡ line_by most key line = cond-true _ _ _ (eq-eqb next place same) in
          let k : line_by most key line ≤ most = line_stays most line key h in
          let there : max_line_in z.rows (slice_index z.lines next) ≡ most = ap (λ i. max_line_in z.rows (slice_index z.lines i)) same in
          rw (e, there) k)
      | inr other ↦
          (let e : (if next == place then line_by most key line else 0) ≡ 0 = cond-false _ _ _ (ne_eqb next place other) in
          rw e (omega arith))
    ]

pressed_from : (z : PagerMetrics) (key : Key) (s : PagerState) (selected : Option ℕ) → s.selected ≡ selected → SelectsEntry (length z.heights) selected → s.line ≤ max_line_of z selected
    → IsSound z (scrolled z.heights z.rows (moved_from z.rows (length z.heights) (max_line_of z selected) key s selected))
pressed_from z key s None e p l = scrolled_sound z s (subst (SelectsEntry (length z.heights)) (sym e) p) (subst (λ o. s.line ≤ max_line_of z o) (sym e) l)
pressed_from z key s (Some place) e p l =
    let next = selected_by z.rows (length z.heights) key place in
    scrolled_sound z (record { selected = Some next; offset = s.offset; line = if next == place then line_by (max_line_of z (Some place)) key s.line else 0 })
    (place_stays z.rows (length z.heights) place key p) (line_moved z place next s.line key l)

pressed_sound : (z : PagerMetrics) (key : Key) (s : PagerState) → IsSound z s → IsSound z (pressed z key s)
pressed_sound z key s sound = pressed_from z key s s.selected refl sound.place sound.line

resized_sound : (z : PagerMetrics) (s : PagerState) → SelectsEntry (length z.heights) s.selected → IsSound z (resized z s)
resized_sound z s p = scrolled_sound z (record { selected = s.selected; offset = s.offset; line = min s.line (max_line_of z s.selected) }) p (omega arith)

pub call_sound : (p : PagerData) (call : Call) → IsSoundPager p → IsSoundPager (after_call p call)
call_sound p (press key) sound = pressed_sound (metrics_of p.entries p.width p.height) key p.state sound
call_sound p (resize width height) sound = resized_sound (metrics_of p.entries width height) p.state sound.place

calls_sound : (p : PagerData) (calls : List Call) → IsSoundPager p → IsSoundPager (after_calls p calls)
calls_sound p [] sound = sound
calls_sound p (call ∷ calls) sound = calls_sound (after_call p call) calls (call_sound p call sound)

first_is_place : (heights : List ℕ) → SelectsEntry (length heights) (first_entry heights)
first_is_place [] = refl
first_is_place (h ∷ heights) = subst (SelectsEntry (length (h ∷ heights))) (sym (cond-false _ _ _ (ne_eqb (length (h ∷ heights)) 0 (λ e. absurd (omega (arith, e)))))) (omega arith)

pub start_sound : (entries : List EntryData) (width height : ℕ) → IsSoundPager (initial_pager entries width height)
start_sound entries width height =
    let z = metrics_of entries width height in
    scrolled_sound z (record { selected = first_entry z.heights; offset = 0; line = 0 }) (first_is_place z.heights) (omega arith)

pub stays_sound : StaysSound
stays_sound entries width height calls = calls_sound (initial_pager entries width height) calls (start_sound entries width height)

some_entries : (count place : ℕ) (selected : Option ℕ) → SelectsEntry count selected → selected ≡ Some place → place < count
some_entries count place None p e = absurd (cc)
some_entries count place (Some other) p e = let same : other ≡ place = cc in omega arith

-- a selected title that fits is among the entries of the window, and these fit together
selected_seen : (z : PagerMetrics) (s : PagerState) (place : ℕ) → IsSound z s → s.selected ≡ Some place → slice_index z.heights place ≤ z.rows →
    let w = window_of z.heights z.rows s.offset s.selected 1 in
    (w.first ≡ s.offset) × (w.first ≤ place) × (place < w.end) × (w.end ≤ length z.heights) × (total z.heights w.first w.end ≤ z.rows)
selected_seen z s place sound at fits =
    let w = window_of z.heights z.rows s.offset s.selected 1 in
    let lt = some_entries (length z.heights) place s.selected sound.place at in
    let is = subst (λ o. IsWindow z.heights z.rows s.offset o 1 w) at (window_is z.heights z.rows s.offset s.selected 1) in
    let there : min place (length z.heights - 1) ≡ place = omega arith in
    let shown = selected_is_shown z.heights z.rows s.offset place 1 w is (omega arith) (subst (λ i. slice_index z.heights i ≤ z.rows) (sym there) fits) in
    let a = shown.0 in
    let b = shown.1 in
    (sym sound.is_scrolled, omega arith, omega arith, shown.2, shown.3)

-- the list is inside borders on all sides
inner_height : (entries : List EntryData) (width height : ℕ) → (inner_of (titles_list entries).block (titles_area width height)).height ≡ height - 3
inner_height entries width height = omega arith

pub count_heights : (entries : List EntryData) → length (heights_of (map title_item entries)) ≡ length entries
count_heights entries = length-map (map title_item entries) item_height ∙ length-map entries title_item

pub shows_selected : (p : PagerData) → IsSoundPager p → ShowsSelected p
shows_selected p sound place at fits =
    let z = metrics_of p.entries p.width p.height in
    let P = λ (n : ℕ). let w = list_window (titles_list p.entries) n (list_state p.state) in
    (w.first ≡ p.state.offset) × (w.first ≤ place) × (place < w.end) × (w.end ≤ length p.entries) × (total z.heights w.first w.end ≤ p.height - 3) in
    let visible = selected_seen z p.state place sound at fits in
    let within = visible.3 in
    let k = subst P (sym (inner_height p.entries p.width p.height))
    (visible.0, visible.1, visible.2, omega (arith, count_heights p.entries), visible.4) in
    record { offset = k.0; from_first = k.1; before_end = k.2; within = k.3; fit = k.4 }

pub selected_is_visible : SelectedIsVisible
selected_is_visible entries width height calls = shows_selected (after_calls (initial_pager entries width height) calls)
    (stays_sound entries width height calls)
