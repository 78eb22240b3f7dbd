-- Whole runs.
use Rattle.std.specs.Prelude.{◌≡◌, ℕ, ◌≤◌, List, [], ◌++◌, length}
use Rattle.std.specs.Io.KnownBytes.{Appends}
use Rattle.tui_app.specs.Behaviour.{Behaviour}
use Rattle.tui_app.specs.EventLoop.{IsFirstState, LoopState, Takes, events_of_read}
use Rattle.tui_app.specs.Session.{Session}
use Rattle.tui_app.specs.Trace.{IsRead, read_entry}
use Rattle.tui_app.specs.declared.app.Flow.TheVariants.{Go, Quit as Quits}
use Rattle.tui_app.specs.declared.outcome.AppEnd.{AppEnd}
use Rattle.tui_app.specs.declared.outcome.AppEnd.TheVariants.{Quit, Ended, ReadFault, WriteFault, NoMemory, ManyReads}
use Rattle.tui_cells.specs.declared.rect.Rect.{Rect}
use Rattle.tui_io.specs.Causes.{Rose, TakesPrefix, Observed}
use Rattle.tui_terminal_model.specs.Session.{enter_text, leave_text}
use Rattle.tui_terminal_model.specs.declared.output.Output.{Output}

-- Why a session stops after `count` reads, what the terminal gave last, and the app then. An event of the last
-- read quits; the input ended; a read failed; memory ran out while the last read was handled; or 4,294,967,296
-- reads were made.
abbrev pub Stops : {A : Type 0} → Behaviour A → LoopState A → ℕ → List ℕ → A → AppEnd → Type 0
Stops b s count given last Quit = (bytes : List ℕ) × IsRead bytes × (given ≡ read_entry bytes)
    × Takes b s.app Go (events_of_read s.keys bytes) last Quits
Stops b s count given last Ended = (given ≡ read_entry []) × (last ≡ s.app)
Stops b s count given last ReadFault = (given ≡ []) × (last ≡ s.app)
Stops b s count given last NoMemory = (bytes : List ℕ) × IsRead bytes × (given ≡ read_entry bytes)
Stops b s count given last ManyReads = (given ≡ []) × (last ≡ s.app) × (count ≡ 4294967296)
Stops b s count given last WriteFault = ⊥

-- the count of I/O errors, which a failed read raises
abbrev pub Counts : AppEnd → ℕ → ℕ → Type 0
Counts ReadFault before now = Rose before now
Counts _ before now = now ≡ before

-- a session of at most that number of reads stopped, and left the terminal
pub record HasStopped {A : Type 0} (b : Behaviour A) (o : Output) (begin : A) (area : Rect) (last : A) (end : AppEnd) (trace : List ℕ)
    (before now : ℕ) : Type 0 where
  pub state : LoopState A
  pub reads : List (List ℕ)
  pub waited : List ℕ
  pub sent : List ℕ
  pub given : List ℕ
  pub session : Session b o begin area state reads waited sent
  pub few : length reads ≤ 4294967296
  pub stops : Stops b state (length reads) given last end
  pub io_errors : Counts end before now
  pub trace_is : trace ≡ waited ++ (given ++ leave_text)

-- the trace that a run has to write, and the count of I/O errors at its end
pub data Sending {A : Type 0} (b : Behaviour A) (o : Output) (begin : A) (area : Rect) (last : A) (before : ℕ) : List ℕ → ℕ → Type 0 where
  enters : (first : LoopState A) → IsFirstState b begin area first → last ≡ first.app → Sending b o begin area last before enter_text before
  shows : (state : LoopState A) (reads : List (List ℕ)) (trace sent : List ℕ) →
      Session b o begin area state reads trace sent → length reads ≤ 4294967296
      → last ≡ state.app → Sending b o begin area last before trace before
  leaves : (end : AppEnd) (trace : List ℕ) (now : ℕ) → HasStopped b o begin area last end trace before now →
      Sending b o begin area last before trace now

-- A run of an app on a terminal of this area, and the app at its end. A session stopped; or a write failed, and the
-- trace is a proper prefix of it; or memory ran out before the first screen, and nothing was written.
pub data IsAppRun {A : Type 0} (b : Behaviour A) (o : Output) (begin : A) (area : Rect) (old new : Observed) (last : A) : AppEnd → Type 0 where
  whole : (end : AppEnd) (trace : List ℕ) → HasStopped b o begin area last end trace old.io_errors new.io_errors → Appends old.bytes new.bytes trace
      → IsAppRun b o begin area old new last end
  cut : (trace : List ℕ) (io_errors : ℕ) → Sending b o begin area last old.io_errors trace io_errors →
      TakesPrefix old.bytes new.bytes trace → Rose io_errors new.io_errors
      → IsAppRun b o begin area old new last WriteFault
  nothing : new ≡ old → IsAppRun b o begin area old new last NoMemory
