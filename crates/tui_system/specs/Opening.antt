-- How opening a terminal or a destination changes it, and how a run ends that opens its terminal first.
use Rattle.std.specs.Prelude.{◌≡◌, Result, Ok, Err}
use Rattle.tui_cells.specs.declared.memory.NoMemory.{NoMemory}
use Rattle.tui_io.specs.Causes.{HasFailed, Observed}
use Rattle.tui_io.specs.declared.source.Failed.{Failed}
use Rattle.tui_program.specs.declared.stop.Stop.{Stop}
use Rattle.tui_program.specs.declared.stop.Stop.TheVariants as stop

-- it could not be opened: its content is unchanged, and that counts as a write that failed
pub record CannotOpen (old new : Observed) : Type 0 where
  pub held : new.bytes ≡ old.bytes
  pub failed : HasFailed old new

-- it is unchanged, and open unless memory ran out; or it could not be opened
abbrev pub Opens : Observed → Observed → Type 0 → Result (Result (Unit {0}) Failed) NoMemory → Type 0
Opens old new is_open (Ok (Ok x)) = (new ≡ old) × is_open
Opens old new is_open (Ok (Err e)) = CannotOpen old new
Opens old new is_open (Err e) = new ≡ old

-- the same with the stop of a run that can't go on then
abbrev pub OpensOrStops : {R : Type 0} → Observed → Observed → Type 0 → Result (Unit {0}) (Stop R) → Type 0
OpensOrStops old new is_open (Ok x) = (new ≡ old) × is_open
OpensOrStops old new is_open (Err stop.WriteFault) = CannotOpen old new
OpensOrStops old new is_open (Err stop.NoMemory) = new ≡ old
OpensOrStops old new is_open (Err other) = ⊥

-- a terminal that is open, with this content
abbrev pub CanBeOpen : {T : Type 0} → (T → Observed) → (T → Type 0) → Observed → Type 0
CanBeOpen {T} observed is_open old = (t : T) × (observed t ≡ old) × is_open t

-- How a run ends that opens its terminal before it uses it. `old` and `new` are what is observable of the terminal before
-- and after; `ready` is that the terminal could be opened, with the content from before; `still` is that nothing else has
-- changed; and `ends` is how the run ends on an open terminal. The terminal can't be opened, or memory runs out, and
-- nothing else has changed. Or the terminal is open, and the run ends so.
pub data EndsOpening {D R : Type 0} (ready : Type 0) (old new : Observed) (still : Type 0)
    (ends : Result D (Stop R) → Type 0) : Result D (Stop R) → Type 0 where
  cannot_open : CannotOpen old new → still → EndsOpening ready old new still ends (Err stop.WriteFault)
  out_of_memory : new ≡ old → still → EndsOpening ready old new still ends (Err stop.NoMemory)
  opened : (e : Result D (Stop R)) → ready → ends e → EndsOpening ready old new still ends e
