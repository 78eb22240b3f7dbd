-- Runs of a program.
use Rattle.std.specs.Prelude.{◌≡◌, ◌⊎◌, List, Result, Ok, Err, String}
use Rattle.std.specs.declared.alloc.Global.{Global}
use Rattle.std.specs.declared.io.Error.{Error}
use Rattle.std.specs.declared.io.ErrorKind.TheVariants.{OutOfMemory}
use Rattle.std.specs.declared.vec.IntoIter.{IntoIter}
use Rattle.std.specs.IoError.{error_kind}
use Rattle.tui_program.specs.Transcript.{Transcript, Unwritten, Unread}
use Rattle.tui_program.specs.Complete.{IsComplete, IsUsage}
use Rattle.tui_program.specs.Outcomes.{Ends}
use Rattle.tui_program.specs.Rules.{Rules}
use Rattle.tui_program.specs.Arguments.{AreArguments}
use Rattle.tui_program.specs.Stops.{Outcome}
use Rattle.tui_program.specs.declared.stop.Stop.TheVariants as stop

-- a run with these arguments
pub record IsRun {C R : Type 0} (rules : Rules C R) (arguments : List (String Global)) (t : Transcript) (e : Outcome R) : Type 0 where
  pub ends : Ends rules arguments t e
  pub complete : IsComplete rules arguments t e
  pub usage : IsUsage rules arguments e

-- the system reported that it is out of memory
abbrev pub ArgsOutOfMemory : Result (IntoIter (String Global) Global) Error → Type 0
ArgsOutOfMemory (Ok all) = ⊥
ArgsOutOfMemory (Err e) = error_kind e ≡ OutOfMemory

-- a run with the system's arguments; or the system was out of memory, and nothing is read or written
pub record IsRunFrom {C R : Type 0} (rules : Rules C R) (args : Result (IntoIter (String Global) Global) Error)
    (t : Transcript) (e : Outcome R) : Type 0 where
  pub run : ((arguments : List (String Global)) × AreArguments args arguments × IsRun rules arguments t e)
      ⊎ (ArgsOutOfMemory args × (e ≡ Err stop.NoMemory) × Unread t × Unwritten t.sink t.sink_then)
