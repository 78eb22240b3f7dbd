-- The outcome of `frames`.
use Rattle.std.specs.Prelude.{Ok, Err}
use Rattle.tui_display.specs.declared.outcome.DisplayEnd.{DisplayEnd}
use Rattle.tui_display.specs.declared.outcome.DisplayEnd.TheVariants as display_end
use Rattle.tui_program.specs.Stops.{Outcome}
use Rattle.tui_program.specs.declared.stop.Stop.TheVariants as stop

-- the outcome of a run of `frames`
abbrev pub display_outcome : {R : Type 0} → DisplayEnd → Outcome R
display_outcome display_end.Ended = Ok tt
display_outcome display_end.TooLong = Err stop.TooLong
display_outcome display_end.ReadFault = Err stop.ReadFault
display_outcome display_end.ManyReads = Err stop.ManyReads
display_outcome display_end.WriteFault = Err stop.WriteFault
display_outcome display_end.NoMemory = Err stop.NoMemory
