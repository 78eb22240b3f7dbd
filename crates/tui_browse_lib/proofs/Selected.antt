-- In a session a pager results from calls. Its size has room for a pager, and is the screen's size if the screen has
-- room for one.
use Rattle.std.proofs.Common.{◌≡◌, ◌≢◌, ℕ, ◌≤◌, ◌-◌, zero, suc, Bool, true, false, List, [], ◌∷◌, ◌++◌, Option, None, Some, cond, replicate, refl, sym, ap, ap₂, subst, true≢false, ◌∙◌, arith}
use Rattle.std.proofs.lemmas.Bool.Decides.{nat_tests}
use Rattle.tui_app.specs.EventLoop.{EventLoop, LoopState, Takes, area_after, drew, events_of_read, joined, last_size, iterated, size_of_read, sized}
use Rattle.tui_app.specs.declared.app.Flow.{Flow}
use Rattle.tui_app.specs.declared.app.Flow.TheVariants.{Go, Redraw, Quit}
use Rattle.tui_cells.specs.declared.size.Size.{Size}
use Rattle.tui_app_laws.specs.Showing.{WaitingShows}
use Rattle.tui_browse_lib.proofs.Pressing.{after_more}
use Rattle.tui_browse_lib.specs.PagerAction.{action, ctrl_action, calls_for, has_room, letter}
use Rattle.tui_browse_lib.specs.Laws.{PagerIsShown}
use Rattle.tui_browse_lib.specs.Paging.{PagerDraws, initial_pager_for, paging}
use Rattle.tui_browse_lib.specs.declared.actions.PagerAction.{PagerAction}
use Rattle.tui_browse_lib.specs.declared.actions.PagerAction.TheVariants as actions
use Rattle.tui_browse_lib.specs.declared.paging.PagerApp.{PagerApp}
use Rattle.tui_cells.specs.Rect.{area_of}
use Rattle.tui_cells.specs.declared.rect.Rect.{Rect}
use Rattle.tui_keys.specs.declared.event.Event.{Event}
use Rattle.tui_keys.specs.declared.event.Event.TheVariants as events
use Rattle.tui_pager_lib.proofs.Sound.{selected_is_visible, stays_sound}
use Rattle.tui_pager_lib.specs.Entry.{EntryData}
use Rattle.tui_pager_lib.specs.Laws.{Call, IsSoundPager, ShowsSelected, after_call, after_calls, initial_pager, press, resize}
use Rattle.tui_pager_lib.specs.Pager.{PagerData}
use Rattle.tui_pager_lib.specs.Screen.{page_area}
use Rattle.tui_pager_lib.specs.declared.key.Key.{Key}
use Rattle.tui_terminal_model.specs.declared.output.Output.{Output}

-- ---- calls

-- a pager that results from calls, starting with one of some size
record Came (entries : List EntryData) (p : PagerData) : Type 0 where
  columns : ℕ
  rows : ℕ
  calls : List Call
  is : p ≡ after_calls (initial_pager entries columns rows) calls

came_by : (entries : List EntryData) (p q : PagerData) (more : List Call) → Came entries p → q ≡ after_calls p more → Came entries q
came_by entries p q more came e = record {
  columns = came.columns;
  rows = came.rows;
  calls = came.calls ++ more;
  is = e ∙ (ap (λ (r : PagerData). after_calls r more) came.is ∙ sym (after_more (initial_pager entries came.columns came.rows) came.calls more));
}

came_first : (entries : List EntryData) (width height : ℕ) → Came entries (initial_pager_for entries width height)
came_first entries width height = by_room (has_room width height)
  where
    by_room : (b : Bool) → Came entries (cond b (initial_pager entries width height) (initial_pager entries 12 5))
    by_room true = record { columns = width; rows = height; calls = []; is = refl }
    by_room false = record { columns = 12; rows = 5; calls = []; is = refl }

-- ---- the screen's size

-- a pager has this area, if the area has room for a pager
abbrev Fits : Rect → PagerData → Type 0
Fits area p = has_room area.width area.height ≡ true → area_of 0 0 p.width p.height ≡ area

-- an area of a size has room for a pager if the size has
has_room_of : (width height : ℕ) → has_room (area_of 0 0 width height).width (area_of 0 0 width height).height ≡ true → has_room width height ≡ true
has_room_of width height room = grind (arith, nat_tests)

fits_if : (entries : List EntryData) (width height : ℕ) (b : Bool) → b ≡ true →
    area_of 0 0 (cond b (initial_pager entries width height) (initial_pager entries 12 5)).width (cond b (initial_pager entries width height) (initial_pager entries 12 5)).height
    ≡ area_of 0 0 width height
fits_if entries width height true e = refl
fits_if entries width height false e = absurd (true≢false (sym e))

fits_first : (entries : List EntryData) (width height : ℕ) → Fits (area_of 0 0 width height) (initial_pager_for entries width height)
fits_first entries width height room = fits_if entries width height (has_room width height) (has_room_of width height room)

resized_if : (p : PagerData) (width height : ℕ) (b : Bool) → b ≡ true →
    area_of 0 0 (after_calls p (cond b (resize width height ∷ []) [])).width (after_calls p (cond b (resize width height ∷ []) [])).height
    ≡ area_of 0 0 width height
resized_if p width height true e = refl
resized_if p width height false e = absurd (true≢false (sym e))

-- pressing a key any number of times keeps the size
presses_keep : (p : PagerData) (key : Key) (n : ℕ) →
    area_of 0 0 (after_calls p (replicate n (press key))).width (after_calls p (replicate n (press key))).height ≡ area_of 0 0 p.width p.height
presses_keep p key zero = refl
presses_keep p key (suc n) = presses_keep (after_call p (press key)) key n

size_after : PagerAction → Option Size → Option Size
size_after (actions.Size width height) size = Some (record { width = width; height = height })
size_after _ size = size

action_fits : (area : Rect) (size : Option Size) (a : PagerAction) (p q : PagerData) → Fits (area_after area size) p → q ≡ after_calls p (calls_for a p) →
    Fits (area_after area (size_after a size)) q
unfolding size_after
action_fits area size actions.Nothing p q fits e = subst (Fits (area_after area size)) (sym e) fits
action_fits area size actions.Quit p q fits e = subst (Fits (area_after area size)) (sym e) fits
action_fits area size actions.Redraw p q fits e = subst (Fits (area_after area size)) (sym e) fits
action_fits area size (actions.Press key) p q fits e = λ room. ap (λ (r : PagerData). area_of 0 0 r.width r.height) e ∙ fits room
action_fits area size (actions.PressPerRow key) p q fits e = λ room. ap (λ (r : PagerData). area_of 0 0 r.width r.height) e ∙ (presses_keep p key (p.height - 3) ∙ fits room)
action_fits area size (actions.Size width height) p q fits e = λ room.
    ap (λ (r : PagerData). area_of 0 0 r.width r.height) e ∙ resized_if p width height (has_room width height) (has_room_of width height room)

letter_size : (size : Option Size) (c : ℕ) → size_after (letter c) size ≡ size
unfolding size_after
letter_size size c = grind (arith, nat_tests)

ctrl_size : (size : Option Size) (c : ℕ) → size_after (ctrl_action c) size ≡ size
unfolding size_after
ctrl_size size c = grind (arith, nat_tests)

event_size : (size : Option Size) (e : Event) → size_after (action e) size ≡ sized size e
unfolding size_after
event_size size (events.Char c) = letter_size size c
event_size size events.Enter = refl
event_size size events.Tab = refl
event_size size events.BackTab = refl
event_size size events.Backspace = refl
event_size size events.Esc = refl
event_size size events.Up = refl
event_size size events.Down = refl
event_size size events.Left = refl
event_size size events.Right = refl
event_size size events.Home = refl
event_size size events.End = refl
event_size size events.PageUp = refl
event_size size events.PageDown = refl
event_size size events.Insert = refl
event_size size events.Delete = refl
event_size size (events.F n) = refl
event_size size (events.Ctrl c) = ctrl_size size c
event_size size (events.Alt c) = refl
event_size size (events.With m k) = refl
event_size size events.PasteBegin = refl
event_size size events.PasteEnd = refl
event_size size (events.Resize width height) = refl
event_size size events.Tick = refl
event_size size events.Unknown = refl

-- ---- a size with room for a pager

abbrev IsLarge : PagerData → Type 0
IsLarge p = has_room p.width p.height ≡ true

large_first : (entries : List EntryData) (width height : ℕ) (b : Bool) → b ≡ has_room width height →
    IsLarge (cond b (initial_pager entries width height) (initial_pager entries 12 5))
large_first entries width height true e = sym e
large_first entries width height false e = refl

large_resized : (p : PagerData) (width height : ℕ) (b : Bool) → b ≡ has_room width height → IsLarge p →
    IsLarge (after_calls p (cond b (resize width height ∷ []) []))
large_resized p width height true e large = sym e
large_resized p width height false e large = large

large_pressed : (p : PagerData) (key : Key) (n : ℕ) → IsLarge p → IsLarge (after_calls p (replicate n (press key)))
large_pressed p key zero large = large
large_pressed p key (suc n) large = large_pressed (after_call p (press key)) key n large

action_large : (a : PagerAction) (p : PagerData) → IsLarge p → IsLarge (after_calls p (calls_for a p))
action_large actions.Nothing p large = large
action_large actions.Quit p large = large
action_large actions.Redraw p large = large
action_large (actions.Press key) p large = large
action_large (actions.PressPerRow key) p large = large_pressed p key (p.height - 3) large
action_large (actions.Size width height) p large = large_resized p width height (has_room width height) refl large

-- ---- all of these, from event to event and from read to read

record Kept (entries : List EntryData) (area : Rect) (p : PagerData) : Type 0 where
  came : Came entries p
  fits : Fits area p
  large : IsLarge p

step_kept : (entries : List EntryData) (area : Rect) (size : Option Size) (e : Event) (p q : PagerData) → Kept entries (area_after area size) p →
    q ≡ after_calls p (calls_for (action e) p) → Kept entries (area_after area (sized size e)) q
step_kept entries area size e p q kept is = record {
  came = came_by entries p q (calls_for (action e) p) kept.came is;
  fits = subst (λ (s : Option Size). Fits (area_after area s) q) (event_size size e) (action_fits area size (action e) p q kept.fits is);
  large = subst IsLarge (sym is) (action_large (action e) p kept.large);
}

takes_kept : (entries : List EntryData) (area : Rect) (size : Option Size) (es : List Event) (flow last : Flow) (old new : PagerApp) → last ≢ Quit →
    Kept entries (area_after area size) old.pager → Takes paging old flow es new last → Kept entries (area_after area (last_size size es)) new.pager
takes_kept entries area size es Quit last old new on kept h = absurd (on h.1)
takes_kept entries area size [] Go last old new on kept h = subst (λ (a : PagerApp). Kept entries (area_after area size) a.pager) (sym h.0) kept
takes_kept entries area size [] Redraw last old new on kept h = subst (λ (a : PagerApp). Kept entries (area_after area size) a.pager) (sym h.0) kept
takes_kept entries area size (e ∷ es) Go last old new on kept h =
    takes_kept entries area (sized size e) es (joined Go h.1) last h.0 new on (step_kept entries area size e old.pager h.0.pager kept h.2.0) h.3
takes_kept entries area size (e ∷ es) Redraw last old new on kept h =
    takes_kept entries area (sized size e) es (joined Redraw h.1) last h.0 new on (step_kept entries area size e old.pager h.0.pager kept h.2.0) h.3

lives_kept : (entries : List EntryData) (width height : ℕ) (begin : PagerApp) (reads : List (List ℕ)) (state : LoopState PagerApp) →
    begin.pager ≡ initial_pager_for entries width height → EventLoop paging begin (area_of 0 0 width height) reads state → Kept entries state.screen.area state.app.pager
lives_kept entries width height begin _ _ first (drew state is) =
    let e : state.app.pager ≡ initial_pager_for entries width height = is.draws.0 ∙ first in
    let kept : Kept entries (area_of 0 0 width height) (initial_pager_for entries width height) =
    record {
      came = came_first entries width height;
      fits = fits_first entries width height;
      large = large_first entries width height (has_room width height) refl;
    } in
    subst (λ (r : Rect). Kept entries r state.app.pager) (sym is.area_is) (subst (Kept entries (area_of 0 0 width height)) (sym e) kept)
lives_kept entries width height begin _ _ first (iterated reads bytes flow old new event_loop iteration) =
    let was = lives_kept entries width height begin reads old first event_loop in
    let moved = takes_kept entries old.screen.area None (events_of_read old.keys bytes) Go flow old.app iteration.moved iteration.not_quit was iteration.takes in
    subst (λ (r : Rect). Kept entries r new.app.pager) (sym iteration.area_is)
    (subst (Kept entries (area_after old.screen.area (size_of_read old.keys bytes))) (sym iteration.draws.0) moved)

lives_drawn : (begin : PagerApp) (area : Rect) (reads : List (List ℕ)) (state : LoopState PagerApp) → EventLoop paging begin area reads state → PagerDraws state.app.pager state.screen
lives_drawn begin area _ _ (drew state is) = subst (λ (p : PagerData). PagerDraws p state.screen) (sym is.draws.0) is.draws.2
lives_drawn begin area _ _ (iterated reads bytes flow old new event_loop iteration) = subst (λ (p : PagerData). PagerDraws p new.screen) (sym iteration.draws.0) iteration.draws.2

page_is : (width height : ℕ) → width ≤ 65535 → height ≤ 65535 → page_area width height ≡ area_of 0 0 width height
page_is width height wide high =
    let one : width ≡ (area_of 0 0 width height).width = omega arith in
    let two : height ≡ (area_of 0 0 width height).height = omega arith in
    ap₂ page_area one two

pub pager_is_shown : (o : Output) → WaitingShows paging o → PagerIsShown o
pager_is_shown o waits entries width height begin state reads trace sent first session =
    let area = area_of 0 0 width height in
    let present = waits begin area state reads trace sent session in
    let kept = lives_kept entries width height begin reads state first present.event_loop in
    let drawn = lives_drawn begin area reads state present.event_loop in
    let came = kept.came in
    record {
      present = present;
      sound = subst IsSoundPager (sym came.is) (stays_sound entries came.columns came.rows came.calls);
      visible = subst ShowsSelected (sym came.is) (selected_is_visible entries came.columns came.rows came.calls);
      page = λ room. drawn.page (sym (page_is state.app.pager.width state.app.pager.height drawn.wide drawn.high ∙ kept.fits room));
      small = λ none. drawn.other (λ same. true≢false (sym kept.large ∙ (sym (ap (λ (r : Rect). has_room r.width r.height) same) ∙ none)));
    }
