-- Whole runs.
use Rattle.std.specs.Prelude.{◌≡◌, ◌⊎◌, ℕ, ◌<◌, ◌≤◌, List, [], ◌∷◌, ◌++◌, codes, length}
use Rattle.std.specs.Io.KnownBytes.{Appends}
use Rattle.std.specs.List.{concat}
use Rattle.tui_app.specs.Trace.{read_entry}
use Rattle.tui_cells.specs.Buffer.{Screen}
use Rattle.tui_display.specs.Lines.{IsCut, pieces}
use Rattle.tui_display.specs.Session.{Session}
use Rattle.tui_display.specs.declared.outcome.DisplayEnd.{DisplayEnd}
use Rattle.tui_display.specs.declared.outcome.DisplayEnd.TheVariants.{Ended, TooLong, ReadFault, WriteFault, NoMemory, ManyReads}
use Rattle.tui_io.specs.Causes.{Rose, TakesPrefix, Observed}
use Rattle.tui_io.specs.Limits.{limit}
use Rattle.tui_terminal_model.specs.Session.{enter_text, leave_text}
use Rattle.tui_terminal_model.specs.declared.output.Output.{Output}

-- every line that has ended in these reads is shown, and the line that has begun after them is not too long
abbrev pub NoneIsLeft : List (List ℕ) → List (List ℕ) → Type 0
NoneIsLeft all lines = (begun : List ℕ) × IsCut (concat all) lines begun × (length begun ≤ limit)

-- some byte after the lines that are shown was read
abbrev pub OneIsLeft : List (List ℕ) → List (List ℕ) → Type 0
OneIsLeft all lines = (before : List ℕ) × (byte : ℕ) × (after : List ℕ) × (begun : List ℕ) × (concat all ≡ before ++ byte ∷ after)
    × IsCut before lines begun

-- all lines but the last are shown, and the last one has a byte
abbrev pub LastIsLeft : List (List ℕ) → List (List ℕ) → Type 0
LastIsLeft all lines = (line : List ℕ) × IsCut (concat all) lines line × (0 < length line) × (length line ≤ limit)

-- Why a session of these reads and lines stops, and what the terminal gave last. All lines are shown; or the next
-- one has too many bytes; or a read failed; or memory ran out for the next line, or for the last one after the end
-- of the input; or 4,294,967,296 reads were made. If a read failed, or after the last of these reads, every line
-- that has ended is shown.
abbrev pub Stops : List (List ℕ) → List (List ℕ) → List ℕ → DisplayEnd → Type 0
Stops all lines given Ended = (given ≡ []) × (pieces (concat all) ≡ lines)
Stops all lines given TooLong = (given ≡ []) × (before : List ℕ) × (after : List ℕ) × (begun : List ℕ) × (concat all ≡ before ++ after)
    × IsCut before lines begun × (limit < length begun)
Stops all lines given ReadFault = (given ≡ []) × NoneIsLeft all lines
Stops all lines given NoMemory = ((given ≡ []) × OneIsLeft all lines) ⊎ ((given ≡ read_entry []) × LastIsLeft all lines)
Stops all lines given ManyReads = (given ≡ []) × (length all ≡ 4294967296) × NoneIsLeft all lines
Stops all lines given WriteFault = ⊥

-- the count of I/O errors, which a failed read raises
abbrev pub Counts : DisplayEnd → ℕ → ℕ → Type 0
Counts ReadFault before now = Rose before now
Counts _ before now = now ≡ before

-- what is written at the end
abbrev pub last_text : DisplayEnd → List ℕ
last_text TooLong = leave_text ++ codes "refused: too long\n"
last_text _ = leave_text

-- a session stopped, and left the terminal
pub record HasStopped (calls : List ℕ → Screen → Screen → Type 0) (o : Output) (end : DisplayEnd) (trace : List ℕ) (before now : ℕ) : Type 0 where
  pub all : List (List ℕ)
  pub lines : List (List ℕ)
  pub screen : Screen
  pub reached : List ℕ
  pub sent : List ℕ
  pub given : List ℕ
  pub session : Session calls o all lines screen reached sent
  pub stops : Stops all lines given end
  pub io_errors : Counts end before now
  pub trace_is : trace ≡ reached ++ (given ++ last_text end)

-- the trace that a run has to write, and the count of I/O errors at its end
pub data Sending (calls : List ℕ → Screen → Screen → Type 0) (o : Output) (before : ℕ) : List ℕ → ℕ → Type 0 where
  enters : Sending calls o before enter_text before
  shows : (all lines : List (List ℕ)) (screen : Screen) (trace sent : List ℕ) →
      Session calls o all lines screen trace sent → Sending calls o before trace before
  leaves : (end : DisplayEnd) (trace : List ℕ) (now : ℕ) → HasStopped calls o end trace before now → Sending calls o before trace now

-- A run of a display on a terminal. A session stopped; or a write failed, and the trace is a proper prefix of it; or
-- memory ran out before the first screen, and nothing was written.
pub data IsDisplayRun (calls : List ℕ → Screen → Screen → Type 0) (o : Output) (old new : Observed) : DisplayEnd → Type 0 where
  whole : (end : DisplayEnd) (trace : List ℕ) → HasStopped calls o end trace old.io_errors new.io_errors → Appends old.bytes new.bytes trace
      → IsDisplayRun calls o old new end
  cut : (trace : List ℕ) (io_errors : ℕ) → Sending calls o old.io_errors trace io_errors →
      TakesPrefix old.bytes new.bytes trace → Rose io_errors new.io_errors
      → IsDisplayRun calls o old new WriteFault
  nothing : new ≡ old → IsDisplayRun calls o old new NoMemory
