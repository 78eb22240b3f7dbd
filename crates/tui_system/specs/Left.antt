-- The outcome of a run with a session.
use Rattle.std.specs.Prelude.{Result, Ok, Err}
use Rattle.tui_app.specs.declared.outcome.AppEnd.{AppEnd}
use Rattle.tui_app.specs.declared.outcome.AppEnd.TheVariants as ends
use Rattle.tui_program.specs.declared.stop.Stop.{Stop}
use Rattle.tui_program.specs.declared.stop.Stop.TheVariants as stop
use Rattle.tui_system.specs.declared.left.Left.{Left}
use Rattle.tui_system.specs.declared.left.Left.TheVariants as left

-- the outcome of a run whose session ended so
abbrev pub left_of : {R : Type 0} → AppEnd → Result Left (Stop R)
left_of ends.Quit = Ok left.Quit
left_of ends.Ended = Ok left.Ended
left_of ends.ReadFault = Err stop.ReadFault
left_of ends.WriteFault = Err stop.WriteFault
left_of ends.NoMemory = Err stop.NoMemory
left_of ends.ManyReads = Err stop.ManyReads
