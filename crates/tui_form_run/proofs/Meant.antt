-- How a session changes a form: it stays open as long as the session goes on, and its fields keep their names.
use Rattle.std.proofs.Common.{◌≡◌, ◌≢◌, ℕ, zero, suc, ◌+◌, Bool, true, false, List, [], ◌∷◌, map, cond, Option, None, Some, refl, sym, ap, subst, ◌∙◌, inl, inr}
use Rattle.std.proofs.lemmas.Iterator.Adapters.{position_from-zero}
use Rattle.std.specs.List.{position_from}
use Rattle.std.specs.Prelude.{◌==◌, if◌then◌else◌, is_some}
use Rattle.tui_app.specs.EventLoop.{LoopState, Takes, events_of_read, joined}
use Rattle.tui_app.specs.Run.{IsAppRun, whole}
use Rattle.tui_app.specs.Session.{Session, begins, goes_on}
use Rattle.tui_app.specs.declared.app.Flow.{Flow}
use Rattle.tui_app.specs.declared.app.Flow.TheVariants.{Go, Quit, Redraw}
use Rattle.tui_app.specs.declared.outcome.AppEnd.TheVariants as ends
use Rattle.tui_cells.specs.Buffer.{Screen}
use Rattle.tui_cells.specs.declared.position.Position.{Position}
use Rattle.tui_cells.specs.declared.rect.Rect.{Rect}
use Rattle.tui_form_lib.specs.FormAction.{action, ctrl_action}
use Rattle.tui_form_lib.specs.Drawing.{FormDraws, field_drawn, has_room, row_in}
use Rattle.tui_form_lib.specs.Field.{FieldData, is_missing}
use Rattle.tui_form_lib.specs.Form.{FormData, form_data}
use Rattle.tui_form_lib.specs.Laws.{form_behaviour}
use Rattle.tui_form_lib.specs.Steps.{accepting, after_event, changed_at, field_after, first_missing, flow_after, flow_for, performed, skipped, taken, takes}
use Rattle.tui_form_lib.specs.declared.form.Form.{Form}
use Rattle.tui_form_lib.specs.declared.form.Outcome.TheVariants.{Open}
use Rattle.tui_form_run.specs.Laws.{IsFilled, IsLeftOrFilled, names_of}
use Rattle.tui_keys.specs.declared.event.Event.{Event}
use Rattle.tui_keys.specs.declared.event.Event.TheVariants as events
use Rattle.tui_io.specs.Causes.{Observed}
use Rattle.tui_terminal_model.specs.declared.output.Output.{Output}

-- ---- what is missing

split : (b : Bool) (k : ℕ) (rest : Option ℕ) → cond b (Some k) rest ≡ None → (b ≡ false) × (rest ≡ None)
split true k rest e = cc
split false k rest e = (refl, e)

none_missing : (k : ℕ) (fields : List FieldData) → position_from is_missing k fields ≡ None → IsFilled fields
none_missing k [] none i f at = cc
none_missing k (g ∷ gs) none zero f at =
    let same : g ≡ f = cc in
    subst (λ (x : FieldData). is_missing x ≡ false) same (split (is_missing g) k (position_from is_missing (k + 1) gs) none).0
none_missing k (g ∷ gs) none (suc i) f at =
    none_missing (k + 1) gs (split (is_missing g) k (position_from is_missing (k + 1) gs) none).1 i f at

filled : (fields : List FieldData) → first_missing fields ≡ None → IsFilled fields
filled fields none = none_missing 0 fields (sym (position_from-zero is_missing fields) ∙ none)

-- ---- from event to event

-- the form is open as long as the session goes on
abbrev Went : Flow → FormData → Type 0
Went Quit f = IsLeftOrFilled f
Went Go f = f.outcome ≡ Open
Went Redraw f = f.outcome ≡ Open

chosen_went : (b : Bool) (m n : Flow) (x y : FormData) → Went m x → Went n y → Went (if b then m else n) (if b then x else y)
chosen_went true m n x y first second = first
chosen_went false m n x y first second = second

accepting_went : (f : FormData) (found : Option ℕ) → first_missing f.fields ≡ found → f.outcome ≡ Open →
    Went (if is_some found then Go else Quit) (accepting f found)
accepting_went f None none is_open = inr (refl, filled f.fields none)
accepting_went f (Some place) is is_open = is_open

-- Ctrl-C leaves the form, Ctrl-L sends the whole screen again, and Ctrl-@ does nothing
ctrl_went : (f : FormData) (leaves draws : Bool) → f.outcome ≡ Open →
    Went (flow_for f (if leaves then ctrl_action 99 else if draws then ctrl_action 108 else ctrl_action 0))
    (performed f (if leaves then ctrl_action 99 else if draws then ctrl_action 108 else ctrl_action 0))
ctrl_went f true draws is_open = inl refl
ctrl_went f false true is_open = is_open
ctrl_went f false false is_open = is_open

esc_went : (f : FormData) (is_escaped : Bool) → f.outcome ≡ Open →
    Went (flow_for f (action is_escaped events.Esc)) (performed f (action is_escaped events.Esc))
esc_went f true is_open = inl refl
esc_went f false is_open = is_open

performed_went : (f : FormData) (b : Bool) (e : Event) → f.outcome ≡ Open → Went (flow_for f (action b e)) (performed f (action b e))
performed_went f b (events.Char c) is_open = is_open
performed_went f b events.Enter is_open = accepting_went f (first_missing f.fields) refl is_open
performed_went f b events.Tab is_open = is_open
performed_went f b events.BackTab is_open = is_open
performed_went f b events.Backspace is_open = is_open
performed_went f b events.Esc is_open = esc_went f b is_open
performed_went f b events.Up is_open = is_open
performed_went f b events.Down is_open = is_open
performed_went f b events.Left is_open = is_open
performed_went f b events.Right is_open = is_open
performed_went f b events.Home is_open = is_open
performed_went f b events.End is_open = is_open
performed_went f b events.PageUp is_open = is_open
performed_went f b events.PageDown is_open = is_open
performed_went f b events.Insert is_open = is_open
performed_went f b events.Delete is_open = is_open
performed_went f b (events.F n) is_open = is_open
performed_went f b (events.Ctrl c) is_open = ctrl_went f (c == 99) (c == 108) is_open
performed_went f b (events.Alt c) is_open = is_open
performed_went f b (events.With m d) is_open = is_open
performed_went f b events.PasteBegin is_open = is_open
performed_went f b events.PasteEnd is_open = is_open
performed_went f b (events.Resize w h) is_open = is_open
performed_went f b events.Tick is_open = is_open
performed_went f b events.Unknown is_open = is_open

escaped_went : (flow : Flow) (f : FormData) (b : Bool) → Went flow f → Went flow (record f { is_escaped = b })
escaped_went Quit f b went = went
escaped_went Go f b went = went
escaped_went Redraw f b went = went

after_went : (f : FormData) (e : Event) → f.outcome ≡ Open → Went (flow_after f e) (after_event f e)
after_went f e is_open =
    escaped_went (flow_after f e) _ _
    (chosen_went f.is_skipping Go (if takes f e then Go else flow_for f (action f.is_escaped e)) (skipped f e) (if takes f e then taken f e else performed f (action f.is_escaped e)) is_open
    (chosen_went (takes f e) Go (flow_for f (action f.is_escaped e)) (taken f e) (performed f (action f.is_escaped e)) is_open (performed_went f f.is_escaped e is_open)))

joined_went : (first step : Flow) (f : FormData) → first ≢ Quit → Went step f → Went (joined first step) f
joined_went Quit step f not_quit went = absurd (not_quit refl)
joined_went Go Go f not_quit went = went
joined_went Go Redraw f not_quit went = went
joined_went Go Quit f not_quit went = went
joined_went Redraw Go f not_quit went = went
joined_went Redraw Redraw f not_quit went = went
joined_went Redraw Quit f not_quit went = went

still_open : (flow : Flow) (f : FormData) → flow ≢ Quit → Went flow f → f.outcome ≡ Open
still_open Quit f not_quit went = absurd (not_quit refl)
still_open Go f not_quit went = went
still_open Redraw f not_quit went = went

-- ---- names

names_changed : (change : FieldData → FieldData) → ((f : FieldData) → (change f).name ≡ f.name) → (i : ℕ) (fields : List FieldData) →
    map (λ (f : FieldData). f.name) (changed_at change i fields) ≡ map (λ (f : FieldData). f.name) fields
names_changed change same i [] = refl
names_changed change same zero (f ∷ fs) = ap (λ (name : List ℕ). name ∷ map (λ (g : FieldData). g.name) fs) (same f)
names_changed change same (suc i) (f ∷ fs) = ap (λ (names : List (List ℕ)). f.name ∷ names) (names_changed change same i fs)

chosen_names : (b : Bool) (names : List (List ℕ)) (x y : FormData) → names_of x ≡ names → names_of y ≡ names → names_of (if b then x else y) ≡ names
chosen_names true names x y first second = first
chosen_names false names x y first second = second

accepting_names : (f : FormData) (found : Option ℕ) → names_of (accepting f found) ≡ names_of f
accepting_names f None = refl
accepting_names f (Some place) = refl

ctrl_names : (f : FormData) (leaves draws : Bool) →
    names_of (performed f (if leaves then ctrl_action 99 else if draws then ctrl_action 108 else ctrl_action 0)) ≡ names_of f
ctrl_names f true draws = refl
ctrl_names f false true = refl
ctrl_names f false false = refl

esc_names : (f : FormData) (is_escaped : Bool) → names_of (performed f (action is_escaped events.Esc)) ≡ names_of f
esc_names f true = refl
esc_names f false = refl

performed_names : (f : FormData) (b : Bool) (e : Event) → names_of (performed f (action b e)) ≡ names_of f
performed_names f b (events.Char c) = refl
performed_names f b events.Enter = accepting_names f (first_missing f.fields)
performed_names f b events.Tab = refl
performed_names f b events.BackTab = refl
performed_names f b events.Backspace = refl
performed_names f b events.Esc = esc_names f b
performed_names f b events.Up = refl
performed_names f b events.Down = refl
performed_names f b events.Left = refl
performed_names f b events.Right = refl
performed_names f b events.Home = refl
performed_names f b events.End = refl
performed_names f b events.PageUp = refl
performed_names f b events.PageDown = refl
performed_names f b events.Insert = refl
performed_names f b events.Delete = refl
performed_names f b (events.F n) = refl
performed_names f b (events.Ctrl c) = ctrl_names f (c == 99) (c == 108)
performed_names f b (events.Alt c) = refl
performed_names f b (events.With m d) = refl
performed_names f b events.PasteBegin = refl
performed_names f b events.PasteEnd = refl
performed_names f b (events.Resize w h) = refl
performed_names f b events.Tick = refl
performed_names f b events.Unknown = refl

after_names : (f : FormData) (e : Event) → names_of (after_event f e) ≡ names_of f
after_names f e =
    chosen_names f.is_skipping (names_of f) (skipped f e) (if takes f e then taken f e else performed f (action f.is_escaped e)) refl
    (chosen_names (takes f e) (names_of f) (taken f e) (performed f (action f.is_escaped e)) (names_changed (field_after e) (λ g. refl) f.focus f.fields) (performed_names f f.is_escaped e))

-- ---- from read to read

-- a form with these names, after events with this flow
record Goes (names : List (List ℕ)) (flow : Flow) (f : FormData) : Type 0 where
  named : names_of f ≡ names
  went : Went flow f

-- one event
one_goes : (names : List (List ℕ)) (e : Event) (flow step : Flow) (old next : Form) → flow ≢ Quit → names_of (form_data old) ≡ names →
    (form_data old).outcome ≡ Open → (form_data next ≡ after_event (form_data old) e) × (step ≡ flow_after (form_data old) e) →
    Goes names (joined flow step) (form_data next)
one_goes names e flow step old next not_quit named is_open h =
    let f = form_data old in
    record {
      named = ap names_of h.0 ∙ after_names f e ∙ named;
      went = joined_went flow step (form_data next) not_quit
          (subst (λ (g : FormData). Went step g) (sym h.0) (subst (λ (s : Flow). Went s (after_event f e)) (sym h.1) (after_went f e is_open)));
    }

takes_goes : (names : List (List ℕ)) (es : List Event) (flow last : Flow) (old new : Form) → Goes names flow (form_data old) →
    Takes form_behaviour old flow es new last → Goes names last (form_data new)
takes_goes names es Quit last old new goes h = rw (h.0, h.1) goes
takes_goes names [] Go last old new goes h = rw (h.0, h.1) goes
takes_goes names [] Redraw last old new goes h = rw (h.0, h.1) goes
takes_goes names (e ∷ es) Go last old new goes h =
    takes_goes names es (joined Go h.1) last h.0 new (one_goes names e Go h.1 old h.0 (λ is. cc) goes.named goes.went h.2) h.3
takes_goes names (e ∷ es) Redraw last old new goes h =
    takes_goes names es (joined Redraw h.1) last h.0 new (one_goes names e Redraw h.1 old h.0 (λ is. cc) goes.named goes.went h.2) h.3

-- ---- drawings

drawn_open : (f new : FormData) (screen : Screen) (place : Option Position) (room : Bool) → has_room screen.area ≡ room → FormDraws f screen place new →
    f.outcome ≡ Open → new.outcome ≡ Open
drawn_open f new screen place true room drawn is_open = ap (λ (g : FormData). g.outcome) (drawn.shows room).new_is ∙ is_open
drawn_open f new screen place false room drawn is_open = ap (λ (g : FormData). g.outcome) (drawn.stays room) ∙ is_open

drawn_names : (f new : FormData) (screen : Screen) (place : Option Position) (room : Bool) → has_room screen.area ≡ room → FormDraws f screen place new →
    names_of new ≡ names_of f
drawn_names f new screen place true room drawn =
    ap names_of (drawn.shows room).new_is ∙ names_changed (field_drawn (row_in f screen.area)) (λ g. refl) f.focus f.fields
drawn_names f new screen place false room drawn = ap names_of (drawn.stays room)

drawn_goes : (names : List (List ℕ)) (f new : FormData) (screen : Screen) (place : Option Position) → FormDraws f screen place new → f.outcome ≡ Open →
    names_of f ≡ names → Goes names Go new
drawn_goes names f new screen place drawn is_open named = record {
  named = drawn_names f new screen place (has_room screen.area) refl drawn ∙ named;
  went = drawn_open f new screen place (has_room screen.area) refl drawn is_open;
}

-- ---- sessions

session_goes : (o : Output) (begin : Form) (area : Rect) (state : LoopState Form) (reads : List (List ℕ)) (trace sent : List ℕ) → (form_data begin).outcome ≡ Open →
    Session form_behaviour o begin area state reads trace sent → Goes (names_of (form_data begin)) Go (form_data state.app)
session_goes o begin area _ _ _ _ is_open (begins first text is full) =
    drawn_goes (names_of (form_data begin)) (form_data begin) (form_data first.app) first.screen first.place is.draws is_open refl
session_goes o begin area _ _ _ _ is_open (goes_on state new reads trace sent bytes text session iterations) =
    let names = names_of (form_data begin) in
    let before = session_goes o begin area state reads trace sent is_open session in
    let iteration = iterations.iteration in
    let moved = takes_goes names (events_of_read state.keys bytes) Go iterations.flow state.app iteration.moved before iteration.takes in
    drawn_goes names (form_data iteration.moved) (form_data new.app) new.screen new.place iteration.draws
    (still_open iterations.flow (form_data iteration.moved) iteration.not_quit moved.went) moved.named

quit_goes : (o : Output) (begin last : Form) (area : Rect) (old new : Observed) → (form_data begin).outcome ≡ Open →
    IsAppRun form_behaviour o begin area old new last ends.Quit → Goes (names_of (form_data begin)) Quit (form_data last)
quit_goes o begin last area old new is_open (whole _ trace stopped put) =
    let h = stopped.stops in
    let before = session_goes o begin area stopped.state stopped.reads stopped.waited stopped.sent is_open stopped.session in
    takes_goes (names_of (form_data begin)) (events_of_read stopped.state.keys h.0) Go Quit stopped.state.app last before h.3

pub quit_is_meant : (o : Output) (begin last : Form) (area : Rect) (old new : Observed) → (form_data begin).outcome ≡ Open →
    IsAppRun form_behaviour o begin area old new last ends.Quit → IsLeftOrFilled (form_data last)
quit_is_meant o begin last area old new is_open run = (quit_goes o begin last area old new is_open run).went

pub quit_keeps_names : (o : Output) (begin last : Form) (area : Rect) (old new : Observed) → (form_data begin).outcome ≡ Open →
    IsAppRun form_behaviour o begin area old new last ends.Quit → names_of (form_data last) ≡ names_of (form_data begin)
quit_keeps_names o begin last area old new is_open run = (quit_goes o begin last area old new is_open run).named
