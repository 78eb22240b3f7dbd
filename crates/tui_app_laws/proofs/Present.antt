-- A session shows what the app has drawn last.
use Rattle.std.proofs.Common.{◌≡◌, ℕ, ◌+◌, ◌≤◌, Bool, List, [], ◌++◌, flat_map, Option, None, Some, refl, sym, ap, subst, ◌∙◌, append_assoc}
use Rattle.std.proofs.lemmas.Grind.{flat_map-append}
use Rattle.std.proofs.lemmas.List.Elements.{All-append}
use Rattle.tui_app.specs.Behaviour.{Behaviour}
use Rattle.tui_app.specs.EventLoop.{EventLoop, LoopState, area_after, drew, iterated}
use Rattle.tui_app.specs.Session.{IsText, Session, begins, cursor_for, goes_on, is_in_full}
use Rattle.tui_app.specs.declared.app.Flow.{Flow}
use Rattle.tui_app.specs.declared.app.Flow.TheVariants.{Go, Redraw, Quit}
use Rattle.tui_cells.specs.declared.size.Size.{Size}
use Rattle.tui_app_laws.specs.Showing.{WaitingShows}
use Rattle.tui_cells.specs.Buffer.{Screen}
use Rattle.tui_cells.specs.declared.position.Position.{Position}
use Rattle.tui_cells.specs.declared.rect.Rect.{Rect}
use Rattle.tui_terminal_model.specs.Calls.{IsChange, IsFull}
use Rattle.tui_terminal_model.specs.Sends.{IsSafe, IsEncoded}
use Rattle.tui_terminal_model.specs.Session.{enter_text}
use Rattle.tui_terminal_model.specs.Shows.{HasCursor, HasRoom, Shows, KnowsWidths}
use Rattle.tui_terminal_model.specs.Encoding.{encoding}
use Rattle.tui_terminal_model.specs.Terminal.{Command, Tty, run}
use Rattle.tui_terminal_model.specs.declared.output.Output.{Output}
use Rattle.tui_terminal_model.specs.declared.widths.KnownWidths.{KnownWidths}
use Rattle.tui_terminal_laws.proofs.Apart.{apart_append, begins_append}
use Rattle.tui_terminal_laws.proofs.Between.{restores_main_screen}
use Rattle.tui_terminal_laws.proofs.Pen.{run_append}
use Rattle.tui_terminal_laws.proofs.Readings.{has_one_reading}

-- the bytes that are written after `enter_text`, and their effect on a terminal
record IsShowing (o : Output) (screen : Screen) (place : Option Position) (text : List ℕ) : Type 0 where
  earlier : List Command
  commands : List Command
  encoded : IsEncoded o.widths (earlier ++ commands) text
  shows : (knows : List ℕ → Bool) (t : Tty) → KnowsWidths o.widths knows → HasRoom t screen → Shows o knows (run knows commands t) screen
  cursor : (knows : List ℕ → Bool) (t : Tty) → KnowsWidths o.widths knows → HasRoom t screen → HasCursor (cursor_for place screen.area) (run knows commands t)

spelled_append : (widths : KnownWidths) (xs ys : List Command) (s t : List ℕ) → IsEncoded widths xs s → IsEncoded widths ys t → IsEncoded widths (xs ++ ys) (s ++ t)
spelled_append widths xs ys s t a c = record {
  encoded = ap (λ (l : List ℕ). l ++ t) a.encoded ∙ (ap (λ (l : List ℕ). flat_map encoding xs ++ l) c.encoded ∙ sym (flat_map-append encoding xs ys));
  safe = All-append IsSafe xs ys a.safe c.safe;
  apart = apart_append widths xs ys a.apart c.apart c.begins;
  begins = begins_append xs ys a.begins c.begins;
}

-- a screen is sent in full
first_shows : (o : Output) (screen : Screen) (place : Option Position) (text : List ℕ) → IsFull o (cursor_for place screen.area) screen text → IsShowing o screen place text
first_shows o screen place text full = record {
  earlier = [];
  commands = full.commands;
  encoded = full.encoded;
  shows = full.shows;
  cursor = full.at_cursor;
}

full_shows : (o : Output) (old new : Screen) (before place : Option Position) (was text : List ℕ) → IsFull o (cursor_for place new.area) new text →
    IsShowing o old before was → IsShowing o new place (was ++ text)
full_shows o old new before place was text full showing = record {
  earlier = showing.earlier ++ showing.commands;
  commands = full.commands;
  encoded = spelled_append o.widths (showing.earlier ++ showing.commands) full.commands was text showing.encoded full.encoded;
  shows = full.shows;
  cursor = full.at_cursor;
}

-- the changes are sent
change_shows : (o : Output) (old new : Screen) (before place : Option Position) (was text : List ℕ) → new.area ≡ old.area →
    IsChange o (cursor_for place new.area) old new text → IsShowing o old before was → IsShowing o new place (was ++ text)
change_shows o old new before place was text area change showing = record {
  earlier = showing.earlier;
  commands = showing.commands ++ change.commands;
  encoded = subst (λ (cs : List Command). IsEncoded o.widths cs (was ++ text)) (append_assoc showing.earlier showing.commands change.commands)
      (spelled_append o.widths (showing.earlier ++ showing.commands) change.commands was text showing.encoded change.encoded);
  shows = λ knows t knows_widths room.
      subst (λ (u : Tty). Shows o knows u new) (sym (run_append knows showing.commands change.commands t))
      (change.shows knows (run knows showing.commands t) knows_widths (there knows t knows_widths room));
  cursor = λ knows t knows_widths room.
      subst (HasCursor (cursor_for place new.area)) (sym (run_append knows showing.commands change.commands t))
      (change.at_cursor knows (run knows showing.commands t) knows_widths (there knows t knows_widths room));
}
  where
    there : (knows : List ℕ → Bool) (t : Tty) → KnowsWidths o.widths knows → HasRoom t new → Shows o knows (run knows showing.commands t) old
    there knows t knows_widths room =
        let room_old : HasRoom t old = record {
          wide = subst (λ (r : Rect). r.x + r.width ≤ t.columns) area room.wide;
          high = subst (λ (r : Rect). r.y + r.height ≤ t.height) area room.high;
        } in
        let shown = showing.shows knows t knows_widths room_old in
        record { ready = shown.ready; room = shown.room; rows = shown.rows }

iteration_shows : (o : Output) (flow : Flow) (size : Option Size) (old new : Screen) (before place : Option Position) (was text : List ℕ) →
    new.area ≡ area_after old.area size → IsText o (is_in_full flow size) old new place text → IsShowing o old before was → IsShowing o new place (was ++ text)
iteration_shows o Go None old new before place was text area is showing = change_shows o old new before place was text area is showing
iteration_shows o Go (Some size) old new before place was text area is showing = full_shows o old new before place was text is showing
iteration_shows o Redraw size old new before place was text area is showing = full_shows o old new before place was text is showing
iteration_shows o Quit size old new before place was text area is showing = full_shows o old new before place was text is showing

-- from read to read
record Lasts {A : Type 0} (b : Behaviour A) (o : Output) (begin : A) (area : Rect) (state : LoopState A) (reads : List (List ℕ)) (sent : List ℕ) : Type 0 where
  event_loop : EventLoop b begin area reads state
  text : List ℕ
  sent_is : sent ≡ enter_text ++ text
  showing : IsShowing o state.screen state.place text

lasts : {A : Type 0} (b : Behaviour A) (o : Output) (begin : A) (area : Rect) (state : LoopState A) (reads : List (List ℕ)) (trace sent : List ℕ) →
    Session b o begin area state reads trace sent → Lasts b o begin area state reads sent
lasts b o begin area _ _ _ _ (begins first text is full) = record {
  event_loop = drew first is;
  text = text;
  sent_is = refl;
  showing = first_shows o first.screen first.place text full;
}
lasts b o begin area _ _ _ _ (goes_on state new reads trace sent bytes text session iterations) =
    let was = lasts b o begin area state reads trace sent session in
    record {
      event_loop = iterated reads bytes iterations.flow state new was.event_loop iterations.iteration;
      text = was.text ++ text;
      sent_is = ap (λ (l : List ℕ). l ++ text) was.sent_is ∙ append_assoc enter_text was.text text;
      showing = iteration_shows o iterations.flow _ state.screen new.screen state.place new.place was.text text iterations.iteration.area_is iterations.text_is was.showing;
    }

pub waiting_shows : {A : Type 0} (b : Behaviour A) (o : Output) → WaitingShows b o
waiting_shows b o begin area state reads trace sent session =
    let now = lasts b o begin area state reads trace sent session in
    let frames = now.showing.earlier ++ now.showing.commands in
    record {
      event_loop = now.event_loop;
      earlier = now.showing.earlier;
      commands = now.showing.commands;
      text = now.text;
      encoded = now.showing.encoded;
      one = λ counted others safe small e. has_one_reading others frames safe now.showing.encoded.safe small counted (e ∙ now.showing.encoded.encoded);
      sent_is = now.sent_is;
      shown = λ knows t knows_widths room. record { screen = now.showing.shows knows t knows_widths room; cursor = now.showing.cursor knows t knows_widths room };
      back = λ knows t whole alternates main. restores_main_screen knows t frames whole alternates main now.showing.encoded.safe;
    }
