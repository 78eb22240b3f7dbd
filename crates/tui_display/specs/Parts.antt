-- The parts of a run.
use Rattle.std.specs.Prelude.{◌≡◌, ◌⊎◌, ℕ, ◌<◌, ◌≤◌, List, [], ◌∷◌, ◌++◌, length, Option, None, Some, Result, Ok, Err}
use Rattle.std.specs.Io.KnownBytes.{Appends}
use Rattle.std.specs.List.{concat}
use Rattle.tui_app.specs.Trace.{WriteFailed, Traced, read_entry}
use Rattle.tui_cells.specs.Buffer.{IsFilled, Screen}
use Rattle.tui_cells.specs.Cell.{blank}
use Rattle.tui_display.specs.Lines.{IsCut}
use Rattle.tui_display.specs.Run.{Counts, Sending, Stops, last_text}
use Rattle.tui_display.specs.Session.{Session, ShowsLine, first_area}
use Rattle.tui_display.specs.declared.display.DisplayState.{DisplayState}
use Rattle.tui_display.specs.declared.outcome.DisplayEnd.{DisplayEnd}
use Rattle.tui_display.specs.declared.outcome.DisplayEnd.TheVariants as ends
use Rattle.tui_io.specs.Causes.{Observed}
use Rattle.tui_io.specs.Limits.{limit}
use Rattle.tui_terminal_model.specs.Calls.{IsFull}
use Rattle.tui_terminal_model.specs.Session.{enter_text}
use Rattle.tui_terminal_model.specs.declared.cursor.Cursor.TheVariants.{Hidden}
use Rattle.tui_terminal_model.specs.declared.output.Output.{Output}

-- a blank screen, and no line
pub record IsBegun (d : DisplayState) : Type 0 where
  pub line : d.line.items ≡ []
  pub shown : IsFilled first_area blank d.shown

-- `enter_text` and the first screen are written
abbrev pub IsOpened : {E : Type 0} → Output → Screen → Observed → Observed → Result (Unit {0}) E → Type 0
IsOpened o first k now (Ok _) = (text : List ℕ) × IsFull o Hidden first text × Traced k now (enter_text ++ text)
IsOpened o first k now (Err _) = WriteFailed k now enter_text
    ⊎ ((text : List ℕ) × IsFull o Hidden first text × WriteFailed k now (enter_text ++ text))

-- ---- one line

-- these bytes are written, or a proper prefix of them
abbrev pub IsWritten : Observed → Observed → List ℕ → Option DisplayEnd → Type 0
IsWritten k now text None = Traced k now text
IsWritten k now text (Some ends.WriteFault) = WriteFailed k now text
IsWritten k now text (Some end) = ⊥

-- the result of a line
abbrev pub IsLineShown : (List ℕ → Screen → Screen → Type 0) → Output → Screen → List ℕ → Screen → Observed → Observed → Option DisplayEnd → Type 0
IsLineShown calls o old line new k now None = length line ≤ limit → (text : List ℕ) × ShowsLine calls o line old new text × Traced k now text
IsLineShown calls o old line new k now (Some ends.WriteFault) = length line ≤ limit →
    (text : List ℕ) × ShowsLine calls o line old new text × WriteFailed k now text
IsLineShown calls o old line new k now (Some ends.NoMemory) = (now ≡ k) × (0 < length line)
IsLineShown calls o old line new k now (Some end) = ⊥

-- one byte of a line
abbrev pub IsAdded : List ℕ → ℕ → List ℕ → Option DisplayEnd → Type 0
IsAdded old byte new None = (new ≡ old ++ byte ∷ []) × (length new ≤ limit)
IsAdded old byte new (Some ends.TooLong) = limit ≤ length old
IsAdded old byte new (Some ends.NoMemory) = Unit {0}
IsAdded old byte new (Some end) = ⊥

-- ---- a session

-- a session from its start up to some byte of what was read
pub record SessionReached (calls : List ℕ → Screen → Screen → Type 0) (o : Output) (t now : Observed)
    (all : List (List ℕ)) (before after line : List ℕ)
    (screen : Screen) : Type 0 where
  pub lines : List (List ℕ)
  pub trace : List ℕ
  pub sent : List ℕ
  pub session : Session calls o all lines screen trace sent
  pub traced : Traced t now trace
  pub input : concat all ≡ before ++ after
  pub cut : IsCut before lines line
  pub within : length line ≤ limit

-- it has come to its end, and the terminal is still to be left
pub record HasEnded (calls : List ℕ → Screen → Screen → Type 0) (o : Output) (t now : Observed) (end : DisplayEnd) : Type 0 where
  pub all : List (List ℕ)
  pub lines : List (List ℕ)
  pub screen : Screen
  pub reached : List ℕ
  pub sent : List ℕ
  pub given : List ℕ
  pub session : Session calls o all lines screen reached sent
  pub stops : Stops all lines given end
  pub io_errors : Counts end t.io_errors now.io_errors
  pub taken : Appends t.bytes now.bytes (reached ++ given)

-- a write failed
pub record HasBroken (calls : List ℕ → Screen → Screen → Type 0) (o : Output) (t now : Observed) : Type 0 where
  pub trace : List ℕ
  pub sending : Sending calls o t.io_errors trace t.io_errors
  pub write_failed : WriteFailed t now trace

abbrev pub Ends : (List ℕ → Screen → Screen → Type 0) → Output → Observed → Observed → DisplayEnd → Type 0
Ends calls o t now ends.WriteFault = HasBroken calls o t now
Ends calls o t now end = HasEnded calls o t now end

-- the result of a session after some bytes
abbrev pub Goes : (List ℕ → Screen → Screen → Type 0) → Output → Observed → Observed →
    List (List ℕ) → List ℕ → List ℕ → List ℕ → Screen → Option DisplayEnd → Type 0
Goes calls o t now all before after line screen None = SessionReached calls o t now all before after line screen
Goes calls o t now all before after line screen (Some end) = Ends calls o t now end

-- some bytes of a read are handled, whatever came before them
abbrev pub Feeds : (List ℕ → Screen → Screen → Type 0) → Output →
    List ℕ → List ℕ → Screen → List ℕ → Screen → Observed → Observed → Option DisplayEnd → Type 0
Feeds calls o bytes line old begun new k now result = (t : Observed) (all : List (List ℕ)) (before after : List ℕ) →
    SessionReached calls o t k all before (bytes ++ after) line old → Goes calls o t now all (before ++ bytes) after begun new result

-- the input ended
abbrev pub IsFinished : (List ℕ → Screen → Screen → Type 0) → Output → List ℕ → Screen → Observed → Observed → DisplayEnd → Type 0
IsFinished calls o line old k now end = (t mid : Observed) (all : List (List ℕ)) →
    SessionReached calls o t mid all (concat all) [] line old → Traced mid k (read_entry []) → Ends calls o t now end

-- one read, whatever came before it
abbrev pub GoesOn : (List ℕ → Screen → Screen → Type 0) → Output → Observed → Observed → List (List ℕ) → List ℕ → Screen → Option DisplayEnd → Type 0
GoesOn calls o t now all line screen None =
    (bytes : List ℕ) × SessionReached calls o t now (all ++ bytes ∷ []) (concat (all ++ bytes ∷ [])) [] line screen
GoesOn calls o t now all line screen (Some end) = Ends calls o t now end

abbrev pub IsIterated : (List ℕ → Screen → Screen → Type 0) → Output →
    List ℕ → Screen → List ℕ → Screen → Observed → Observed → Option DisplayEnd → Type 0
IsIterated calls o line old begun new k now result = (t : Observed) (all : List (List ℕ)) →
    SessionReached calls o t k all (concat all) [] line old → GoesOn calls o t now all begun new result

-- a session that waits after `count` reads
pub record HasRead (calls : List ℕ → Screen → Screen → Type 0) (o : Output) (t now : Observed) (count : ℕ)
    (line : List ℕ) (screen : Screen) : Type 0 where
  pub all : List (List ℕ)
  pub counted : length all ≡ count
  pub reached : SessionReached calls o t now all (concat all) [] line screen

-- the last bytes
abbrev pub IsClosed : DisplayEnd → Observed → Observed → DisplayEnd → Type 0
IsClosed ends.WriteFault k now new = (new ≡ ends.WriteFault) × (now ≡ k)
IsClosed old k now new = ((new ≡ old) × Traced k now (last_text old)) ⊎ ((new ≡ ends.WriteFault) × WriteFailed k now (last_text old))
