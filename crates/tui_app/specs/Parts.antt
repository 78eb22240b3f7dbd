-- The parts of a run.
use Rattle.std.specs.Prelude.{◌≡◌, ◌≢◌, ℕ, Bool, ◌⊎◌, List, [], ◌++◌, length, Option, None, Some, Result, Ok, Err}
use Rattle.tui_app.specs.Behaviour.{Behaviour}
use Rattle.tui_app.specs.EventLoop.{IsFirstState, LoopState, Takes, area_after, events_of_read}
use Rattle.tui_app.specs.Session.{IsText, Session, Iterates, cursor_for, is_in_full}
use Rattle.tui_app.specs.Trace.{WriteFailed, IsRead, ReadFailed, Traced, read_entry}
use Rattle.tui_app.specs.declared.app.Flow.TheVariants.{Go, Quit}
use Rattle.tui_app.specs.declared.outcome.AppEnd.{AppEnd}
use Rattle.tui_app.specs.declared.outcome.AppEnd.TheVariants as ends
use Rattle.tui_app.specs.declared.feed.Reaction.{Reaction}
use Rattle.tui_cells.specs.declared.size.Size.{Size}
use Rattle.tui_app.specs.declared.buffers.LoopBuffers.{LoopBuffers}
use Rattle.tui_cells.specs.declared.rect.Rect.{Rect}
use Rattle.tui_io.specs.Causes.{Observed, Writes}
use Rattle.tui_keys.specs.Steps.{start}
use Rattle.tui_keys.specs.declared.keys.KeyDecoder.{KeyDecoder}
use Rattle.tui_terminal_model.specs.Calls.{IsFull}
use Rattle.tui_terminal_model.specs.Session.{enter_text, leave_text}
use Rattle.tui_terminal_model.specs.declared.output.Output.{Output}

abbrev pub state_of : {A : Type 0} → A → KeyDecoder → LoopBuffers → LoopState A
state_of app keys s = record { app = app; keys = keys; screen = s.shown; place = s.place }

-- the next screen is drawn; if no size was reported, the one before is the spare one now
pub record IsNextDrawn {A : Type 0} (b : Behaviour A) (size : Option Size) (app : A) (old : LoopBuffers)
    (moved : A) (new : LoopBuffers) : Type 0 where
  pub draws : b.draws app new.shown new.place moved
  pub area_is : new.shown.area ≡ area_after old.shown.area size
  pub areas : new.shown.area ≡ new.spare.area
  pub spare : size ≡ None → new.spare ≡ old.shown

-- the bytes of a screen are written
pub record Sent {E : Type 0} (o : Output) (in_full : Bool) (s : LoopBuffers) (k now : Observed) (result : Result (Unit {0}) E) : Type 0 where
  pub text : List ℕ
  pub text_is : IsText o in_full s.spare s.shown s.place text
  pub writes : Writes k now result text

-- the next screen is drawn, and its bytes are written
pub record HasShown {A E : Type 0} (b : Behaviour A) (o : Output) (reaction : Reaction) (app : A)
    (old : LoopBuffers) (moved : A) (new : LoopBuffers) (k now : Observed)
    (result : Result (Unit {0}) E) : Type 0 where
  pub drawn : IsNextDrawn b reaction.size app old moved new
  pub text : List ℕ
  pub text_is : IsText o (is_in_full reaction.flow reaction.size) old.shown new.shown new.place text
  pub writes : Writes k now result text

-- or memory ran out while drawing
abbrev pub IsNextShown : {A E F : Type 0} → Behaviour A → Output → Reaction → A → LoopBuffers → A → LoopBuffers →
    Observed → Observed → Result (Result (Unit {0}) E) F → Type 0
IsNextShown b o reaction app old moved new k now (Ok result) = HasShown b o reaction app old moved new k now result
IsNextShown b o reaction app old moved new k now (Err _) = now ≡ k

-- the next screen is drawn, and these are its bytes
pub record IsDrawn {A : Type 0} (b : Behaviour A) (o : Output) (reaction : Reaction) (app : A) (old : LoopBuffers)
    (moved : A) (new : LoopBuffers) (text : List ℕ) : Type 0 where
  pub not_quit : reaction.flow ≢ Quit
  pub drawn : IsNextDrawn b reaction.size app old moved new
  pub text_is : IsText o (is_in_full reaction.flow reaction.size) old.shown new.shown new.place text

-- what follows the events of a read
abbrev pub Follows : {A : Type 0} → Behaviour A → Output → Reaction → A → LoopBuffers → A → LoopBuffers → Observed → Observed → Option AppEnd → Type 0
Follows b o reaction app old moved new k now None = (text : List ℕ) × IsDrawn b o reaction app old moved new text × Traced k now text
Follows b o reaction app old moved new k now (Some ends.WriteFault) = (text : List ℕ)
    × IsDrawn b o reaction app old moved new text × WriteFailed k now text
Follows b o reaction app old moved new k now (Some ends.NoMemory) = now ≡ k
Follows b o reaction app old moved new k now (Some ends.Quit) = (reaction.flow ≡ Quit) × (moved ≡ app) × (now ≡ k)
Follows b o reaction app old moved new k now (Some end) = ⊥

-- a read, and the result of its bytes
abbrev pub Iterated : {A : Type 0} → Behaviour A → Output → LoopState A → LoopState A → Observed → Observed → Option AppEnd → Type 0
Iterated b o old new t now None = (bytes : List ℕ) × (text : List ℕ) × Iterates b o old bytes new text × Traced t now (read_entry bytes ++ text)
Iterated b o old new t now (Some ends.WriteFault) = (bytes : List ℕ) × (text : List ℕ)
    × Iterates b o old bytes new text × WriteFailed t now (read_entry bytes ++ text)
Iterated b o old new t now (Some ends.NoMemory) = (bytes : List ℕ) × IsRead bytes × Traced t now (read_entry bytes)
Iterated b o old new t now (Some ends.Quit) =
    (bytes : List ℕ) × IsRead bytes × Takes b old.app Go (events_of_read old.keys bytes) new.app Quit × Traced t now (read_entry bytes)
Iterated b o old new t now (Some ends.Ended) = Traced t now (read_entry []) × (new.app ≡ old.app)
Iterated b o old new t now (Some ends.ReadFault) = ReadFailed t now × (new.app ≡ old.app)
Iterated b o old new t now (Some ends.ManyReads) = ⊥

-- the first screen is drawn
pub record IsBegun {A : Type 0} (b : Behaviour A) (begin : A) (area : Rect) (app : A) (buffers : LoopBuffers) : Type 0 where
  pub first : IsFirstState b begin area (state_of app start buffers)
  pub areas : buffers.shown.area ≡ buffers.spare.area

-- the first screen is sent
abbrev pub Opened : {E : Type 0} → Output → LoopBuffers → Observed → Observed → Result (Unit {0}) E → Type 0
Opened o s k now (Ok _) = (text : List ℕ) × IsFull o (cursor_for s.place s.shown.area) s.shown text × Traced k now (enter_text ++ text)
Opened o s k now (Err _) =
    WriteFailed k now enter_text
    ⊎ ((text : List ℕ) × IsFull o (cursor_for s.place s.shown.area) s.shown text × WriteFailed k now (enter_text ++ text))

-- a session from its start up to a read
pub record SessionReached {A : Type 0} (b : Behaviour A) (o : Output) (begin : A) (area : Rect)
    (state : LoopState A) (t now : Observed) (count : ℕ) : Type 0 where
  pub reads : List (List ℕ)
  pub trace : List ℕ
  pub sent : List ℕ
  pub session : Session b o begin area state reads trace sent
  pub traced : Traced t now trace
  pub counted : length reads ≡ count

-- the last bytes
abbrev pub Closed : AppEnd → Observed → Observed → AppEnd → Type 0
Closed ends.WriteFault k now new = (new ≡ ends.WriteFault) × (now ≡ k)
Closed old k now new = ((new ≡ old) × Traced k now leave_text) ⊎ ((new ≡ ends.WriteFault) × WriteFailed k now leave_text)
