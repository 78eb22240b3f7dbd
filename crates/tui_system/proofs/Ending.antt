-- How a run ends whose terminal could not be opened.
use Rattle.std.proofs.Common.{Result, Err}
use Rattle.tui_io.specs.Causes.{Observed}
use Rattle.tui_program.specs.declared.stop.Stop.{Stop}
use Rattle.tui_program.specs.declared.stop.Stop.TheVariants as stop
use Rattle.tui_system.specs.Opening.{EndsOpening, OpensOrStops, cannot_open, out_of_memory}

-- the terminal could not be opened, or memory ran out
pub ends_unopened : {D R : Type 0} (ready is_open : Type 0) (old new : Observed) (still : Type 0) (ends : Result D (Stop R) → Type 0) (stopped : Stop R) →
    OpensOrStops {R = R} old new is_open (Err stopped) → still → EndsOpening ready old new still ends (Err stopped)
ends_unopened ready is_open old new still ends stop.WriteFault h same = cannot_open h same
ends_unopened ready is_open old new still ends stop.NoMemory h same = out_of_memory h same
ends_unopened ready is_open old new still ends other h same = absurd h
