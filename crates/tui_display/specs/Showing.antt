-- What a terminal shows after each line.
use Rattle.std.specs.Prelude.{◌≡◌, ℕ, Bool, true, List, [], ◌∷◌, ◌++◌}
use Rattle.tui_cells.specs.Buffer.{IsFilled, Screen}
use Rattle.tui_cells.specs.Cell.{blank}
use Rattle.tui_display.specs.Session.{Makes, Session, first_area}
use Rattle.tui_terminal_model.specs.Sends.{IsEncoded}
use Rattle.tui_terminal_model.specs.Session.{IsMainRestored, enter_commands, enter_text, leave_commands}
use Rattle.tui_terminal_model.specs.Shows.{HasCursor, HasRoom, Shows, KnowsWidths}
use Rattle.tui_terminal_model.specs.Terminal.{Command, Tty, nothing, run}
use Rattle.tui_terminal_model.specs.declared.cursor.Cursor.TheVariants.{Hidden}
use Rattle.tui_terminal_model.specs.declared.output.Output.{Output}

-- the screen after these lines, starting from the blank one
pub data Follows (calls : List ℕ → Screen → Screen → Type 0) : List (List ℕ) → Screen → Type 0 where
  first : (screen : Screen) → IsFilled first_area blank screen → Follows calls [] screen
  next : (lines : List (List ℕ)) (line : List ℕ) (old new : Screen) → Follows calls lines old → Makes calls line old new
      → Follows calls (lines ++ line ∷ []) new

-- after these commands any terminal that fits the output and has room for the screen shows it, without a cursor,
-- whatever it showed before
pub record IsScreenShown (o : Output) (screen : Screen) (commands : List Command) (knows : List ℕ → Bool) (t : Tty) : Type 0 where
  pub cells : Shows o knows (run knows commands t) screen
  pub cursor : HasCursor Hidden (run knows commands t)

-- The screen after these lines. The bytes written are `enter_text`, and then commands: `earlier` ones, and those from
-- the last screen on that was sent in full. A terminal that had room for that screen when these began shows what the
-- last line called for, whatever it showed before.
pub record AreLinesPresent (calls : List ℕ → Screen → Screen → Type 0) (o : Output) (lines : List (List ℕ))
    (screen : Screen) (sent : List ℕ) : Type 0 where
  pub follows : Follows calls lines screen
  pub earlier : List Command
  pub commands : List Command
  pub text : List ℕ
  pub encoded : IsEncoded o.widths (earlier ++ commands) text
  pub sent_is : sent ≡ enter_text ++ text
  pub shown : (knows : List ℕ → Bool) (t : Tty) → KnowsWidths o.widths knows → HasRoom t screen → IsScreenShown o screen commands knows t
  -- and leaving gives the main screen back, on a terminal that has an alternate one
  pub back : (knows : List ℕ → Bool) (t : Tty) → t.whole ≡ true → t.alternates ≡ true → t.screen ≡ nothing →
      IsMainRestored t (run knows (enter_commands ++ ((earlier ++ commands) ++ leave_commands)) t)

-- at every point of a session, and so after each line
abbrev pub LinesShow : (List ℕ → Screen → Screen → Type 0) → Output → Type 0
LinesShow calls o = (all lines : List (List ℕ)) (screen : Screen) (trace sent : List ℕ) →
    Session calls o all lines screen trace sent → AreLinesPresent calls o lines screen sent
