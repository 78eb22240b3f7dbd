-- The outcome of a run as that of any program, and its exit status.
use Rattle.std.specs.Prelude.{ℕ, Ok, Err}
use Rattle.tui_program.specs.Stops as frame
use Rattle.tui_program.specs.Stops.{Outcome}
use Rattle.tui_program.specs.declared.stop.Stop.TheVariants as stop
use Rattle.tui_pages_run.specs.declared.ended.PagesEnded.{PagesEnded}
use Rattle.tui_pages_run.specs.declared.ended.PagesEnded.TheVariants as ended
use Rattle.tui_pages_run.specs.declared.refusal.PagesRefusal.{PagesRefusal}
use Rattle.tui_pages_run.specs.declared.refusal.PagesRefusal.TheVariants as refusals

-- an outcome of this program as one of any program
abbrev pub outcome_of : PagesEnded → Outcome PagesRefusal
outcome_of ended.Ok = Ok tt
outcome_of ended.Usage = Err stop.Usage
outcome_of ended.TooLong = Err stop.TooLong
outcome_of ended.NotJson = Err stop.NotJson
outcome_of (ended.BadInput at field) = Err (stop.Rejected (refusals.BadInput at field))
outcome_of (ended.TooTall place) = Err (stop.Rejected (refusals.TooTall place))
outcome_of ended.ReadFault = Err stop.ReadFault
outcome_of ended.WriteFault = Err stop.WriteFault
outcome_of ended.NoMemory = Err stop.NoMemory

-- 5 for a rejected field, 9 for a record that is too tall
abbrev pub refused_status : PagesRefusal → ℕ
refused_status (refusals.BadInput at field) = 5
refused_status (refusals.TooTall place) = 9

-- for the other outcomes the status that every program has
abbrev pub status_of : PagesEnded → ℕ
status_of e = frame.status_of refused_status (outcome_of e)
