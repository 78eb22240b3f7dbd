-- The outcome of a run, as in every program, and its exit status.
use Rattle.std.specs.Prelude.{ℕ, Ok, Err}
use Rattle.tui_program.specs.Stops as frame
use Rattle.tui_program.specs.Stops.{Outcome}
use Rattle.tui_program.specs.declared.stop.Stop.TheVariants as stop
use Rattle.tui_schema.specs.Refusals.{bad_field}
use Rattle.tui_panes_run.specs.Refusals.{bad_pane}
use Rattle.tui_panes_run.specs.declared.ended.PanesEnded.{PanesEnded}
use Rattle.tui_panes_run.specs.declared.ended.PanesEnded.TheVariants as ended
use Rattle.tui_panes_run.specs.declared.refusal.PanesRefusal.{PanesRefusal}
use Rattle.tui_panes_run.specs.declared.refusal.PanesRefusal.TheVariants as refusals

abbrev pub outcome_of : PanesEnded → Outcome PanesRefusal
outcome_of ended.Ok = Ok tt
outcome_of ended.Usage = Err stop.Usage
outcome_of ended.TooLong = Err stop.TooLong
outcome_of ended.NotJson = Err stop.NotJson
outcome_of (ended.BadPane pane field) = Err (stop.Rejected (bad_pane pane field))
outcome_of (ended.BadField item field) = Err (stop.Rejected (refusals.BadField (bad_field item field)))
outcome_of ended.ReadFault = Err stop.ReadFault
outcome_of ended.WriteFault = Err stop.WriteFault
outcome_of ended.NoMemory = Err stop.NoMemory

-- 5 for a rejected field, and otherwise the status that every program has
abbrev pub status_of : PanesEnded → ℕ
status_of e = frame.status_of (λ refused. 5) (outcome_of e)
