-- The outcome of a run as that of any program, and its exit status.
use Rattle.std.specs.Prelude.{ℕ, Ok, Err}
use Rattle.tui_program.specs.Stops as frame
use Rattle.tui_program.specs.Stops.{Outcome}
use Rattle.tui_program.specs.declared.stop.Stop.TheVariants as stop
use Rattle.tui_pager_run.specs.Refusals.{bad_input}
use Rattle.tui_pager_run.specs.declared.bad_input.BadInput.{BadInput}
use Rattle.tui_pager_run.specs.declared.ended.PagerEnded.{PagerEnded}
use Rattle.tui_pager_run.specs.declared.ended.PagerEnded.TheVariants as ended

-- an outcome of this program as one of any program
abbrev pub outcome_of : PagerEnded → Outcome BadInput
outcome_of ended.Ok = Ok tt
outcome_of ended.Usage = Err stop.Usage
outcome_of ended.TooLong = Err stop.TooLong
outcome_of ended.NotJson = Err stop.NotJson
outcome_of (ended.BadInput at field) = Err (stop.Rejected (bad_input at field))
outcome_of ended.ReadFault = Err stop.ReadFault
outcome_of ended.WriteFault = Err stop.WriteFault
outcome_of ended.NoMemory = Err stop.NoMemory

-- 5 for a rejected field; for the others the status that every program has
abbrev pub status_of : PagerEnded → ℕ
status_of e = frame.status_of (λ refused. 5) (outcome_of e)
