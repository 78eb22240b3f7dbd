-- How a form was left.
use Rattle.std.specs.Prelude.{ℕ, Result, Ok, Err}
use Rattle.tui_app.specs.declared.outcome.AppEnd.{AppEnd}
use Rattle.tui_app.specs.declared.outcome.AppEnd.TheVariants as ends
use Rattle.tui_form_lib.specs.declared.form.Outcome.{Outcome}
use Rattle.tui_form_lib.specs.declared.form.Outcome.TheVariants as outcomes
use Rattle.tui_form_run.specs.declared.form_left.FormLeft.{FormLeft}
use Rattle.tui_form_run.specs.declared.form_left.FormLeft.TheVariants.{Accepted, Left, Ended}
use Rattle.tui_program.specs.declared.stop.Stop.{Stop}
use Rattle.tui_program.specs.declared.stop.Stop.TheVariants as stop

-- the outcome for the end of a session and the form's outcome; accepted only if the session quit with an accepted form
abbrev pub left_as : {R : Type 0} → AppEnd → Outcome → Result FormLeft (Stop R)
left_as ends.Quit outcomes.Accepted = Ok Accepted
left_as ends.Quit outcome = Ok Left
left_as ends.Ended outcome = Ok Ended
left_as ends.ReadFault outcome = Err stop.ReadFault
left_as ends.WriteFault outcome = Err stop.WriteFault
left_as ends.NoMemory outcome = Err stop.NoMemory
left_as ends.ManyReads outcome = Err stop.ManyReads

-- the exit status
abbrev pub status_of : FormLeft → ℕ
status_of Accepted = 0
status_of Left = 1
status_of Ended = 1
