-- The alternate screen, from entering to leaving it; and the end of a display on the main screen.
use Rattle.std.specs.Prelude.{◌≡◌, ℕ, Bool, true, false, List, [], ◌∷◌, ◌++◌, All, Some, flat_map}
use Rattle.tui_terminal_model.specs.Sends.{IsSafe}
use Rattle.tui_terminal_model.specs.Encoding.{encoding}
use Rattle.tui_terminal_model.specs.Terminal.{Tty, nothing, autowrap, visible, synchronizing, bracketed, alternate, Command, reset_modes, paint, set_mode, rest, run}

-- shows the alternate screen, resets its modes, and turns on bracketed paste
abbrev pub enter_commands : List Command
enter_commands = set_mode alternate true ∷ reset_modes ∷ set_mode bracketed true ∷ []

-- Ends synchronized output and bracketed paste, and shows the main screen. Then sets what may have come back with it:
-- the default pen, autowrap and a visible cursor.
abbrev pub leave_commands : List Command
leave_commands = set_mode synchronizing false ∷ set_mode bracketed false ∷ set_mode alternate false ∷ paint []
    ∷ set_mode autowrap true ∷ set_mode visible true ∷ []

unfoldable pub enter_text : List ℕ
enter_text = flat_map encoding enter_commands

unfoldable pub leave_text : List ℕ
leave_text = flat_map encoding leave_commands

-- the main screen is back, with the cells and the cursor that it had
pub record IsMainRestored (t u : Tty) : Type 0 where
  pub cells : u.cells ≡ t.cells
  pub cursor : u.cursor ≡ t.cursor
  pub main : u.screen ≡ nothing
  pub unstyled : u.pen ≡ Some rest
  pub wraps : u.autowrap ≡ Some true
  pub seen : u.visible ≡ Some true
  pub not_synchronizing : u.synchronizing ≡ Some false
  pub not_bracketed : u.bracketed ≡ Some false
  pub whole : u.whole ≡ true

-- whatever frames are sent in between, on a terminal that has an alternate screen
abbrev pub RestoresMainScreen : Type 0
RestoresMainScreen = (knows : List ℕ → Bool) (t : Tty) (frames : List Command) → t.whole ≡ true → t.alternates ≡ true → t.screen ≡ nothing →
    All IsSafe frames → IsMainRestored t (run knows (enter_commands ++ (frames ++ leave_commands)) t)

-- ---- a display on the main screen, such as a progress bar

-- ends synchronized output, and sets the default pen, autowrap and a visible cursor
abbrev pub settle_commands : List Command
settle_commands = set_mode synchronizing false ∷ paint [] ∷ set_mode autowrap true ∷ set_mode visible true ∷ []

unfoldable pub settle_text : List ℕ
settle_text = flat_map encoding settle_commands

-- What the frames have drawn stays, on the screen that was shown before them. The terminal has the default pen,
-- autowrap and a visible cursor, and no output is held back.
pub record IsSettled (before drawn u : Tty) : Type 0 where
  pub cells : u.cells ≡ drawn.cells
  pub cursor : u.cursor ≡ drawn.cursor
  pub screen : u.screen ≡ before.screen
  pub brackets : u.bracketed ≡ before.bracketed
  pub unstyled : u.pen ≡ Some rest
  pub wraps : u.autowrap ≡ Some true
  pub seen : u.visible ≡ Some true
  pub not_synchronizing : u.synchronizing ≡ Some false
  pub whole : u.whole ≡ true

-- whatever frames were sent
abbrev pub Settles : Type 0
Settles = (knows : List ℕ → Bool) (t : Tty) (frames : List Command) → t.whole ≡ true → All IsSafe frames →
    IsSettled t (run knows frames t) (run knows (frames ++ settle_commands) t)
