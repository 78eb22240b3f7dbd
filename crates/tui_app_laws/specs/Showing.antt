-- What a terminal shows while an app runs on it.
use Rattle.std.specs.Prelude.{◌≡◌, ℕ, Bool, true, List, ◌++◌, All, flat_map}
use Rattle.tui_app.specs.Behaviour.{Behaviour}
use Rattle.tui_app.specs.EventLoop.{EventLoop, LoopState}
use Rattle.tui_app.specs.Session.{Session, cursor_for}
use Rattle.tui_cells.specs.declared.rect.Rect.{Rect}
use Rattle.tui_terminal_model.specs.Sends.{IsSafe, IsEncoded}
use Rattle.tui_terminal_model.specs.Session.{IsMainRestored, enter_commands, enter_text, leave_commands}
use Rattle.tui_terminal_model.specs.Shows.{HasCursor, HasRoom, Shows, KnowsWidths}
use Rattle.tui_terminal_model.specs.Encoding.{encoding}
use Rattle.tui_terminal_model.specs.Terminal.{Command, Tty, nothing, run}
use Rattle.tui_terminal_model.specs.declared.output.Output.{Output}
use Rattle.tui_terminal_laws.specs.Reading.{IsSmall, joined}

-- after these commands any terminal that fits the output and has room for the screen shows it, with the cursor,
-- whatever it showed before
pub record IsStateShown {A : Type 0} (o : Output) (state : LoopState A) (commands : List Command) (knows : List ℕ → Bool) (t : Tty) : Type 0 where
  pub screen : Shows o knows (run knows commands t) state.screen
  pub cursor : HasCursor (cursor_for state.place state.screen.area) (run knows commands t)

-- no other list of such commands has these bytes, except for where one of two adjacent prints ends and the next begins
abbrev pub IsOneReading : List Command → List ℕ → Type 0
IsOneReading commands text = (others : List Command) → All IsSafe others → All IsSmall others → flat_map encoding others ≡ text →
    joined others ≡ joined commands

-- The app has handled the events of these reads and drawn. The bytes written are `enter_text`, and then commands:
-- `earlier` ones, and those from the last screen on that was sent in full. A terminal that had room for that screen
-- when these began shows what was drawn, whatever it showed before.
pub record IsPresent {A : Type 0} (b : Behaviour A) (o : Output) (begin : A) (area : Rect) (state : LoopState A) (reads : List (List ℕ))
    (sent : List ℕ) : Type 0 where
  pub event_loop : EventLoop b begin area reads state
  pub earlier : List Command
  pub commands : List Command
  pub text : List ℕ
  pub encoded : IsEncoded o.widths (earlier ++ commands) text
  pub one : All IsSmall (earlier ++ commands) → IsOneReading (earlier ++ commands) text
  pub sent_is : sent ≡ enter_text ++ text
  pub shown : (knows : List ℕ → Bool) (t : Tty) → KnowsWidths o.widths knows → HasRoom t state.screen → IsStateShown o state commands knows t
  -- and leaving gives the main screen back, on a terminal that has an alternate one
  pub back : (knows : List ℕ → Bool) (t : Tty) → t.whole ≡ true → t.alternates ≡ true → t.screen ≡ nothing →
      IsMainRestored t (run knows (enter_commands ++ ((earlier ++ commands) ++ leave_commands)) t)

-- whenever a session waits for input
abbrev pub WaitingShows : {A : Type 0} → Behaviour A → Output → Type 0
WaitingShows {A} b o = (begin : A) (area : Rect) (state : LoopState A) (reads : List (List ℕ)) (trace sent : List ℕ) →
    Session b o begin area state reads trace sent → IsPresent b o begin area state reads sent
