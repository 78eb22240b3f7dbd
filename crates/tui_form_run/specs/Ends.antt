-- How a run ends, and why.
use Rattle.std.specs.Prelude.{◌≡◌, List, Option, None, Some, Result, Ok, Err}
use Rattle.tui_app.specs.Run.{IsAppRun}
use Rattle.tui_app.specs.declared.outcome.AppEnd.{AppEnd}
use Rattle.tui_cells.specs.Rect.{area_of}
use Rattle.tui_form_lib.specs.Field.{FieldData}
use Rattle.tui_form_lib.specs.Form.{FormData, form_data}
use Rattle.tui_form_lib.specs.Laws.{form_behaviour}
use Rattle.tui_form_lib.specs.declared.form.Form as code
use Rattle.tui_form_run.specs.Answers.{answers_line}
use Rattle.tui_form_run.specs.Asked.{Asked, form_reader}
use Rattle.tui_form_run.specs.FormLeft.{left_as}
use Rattle.tui_form_run.specs.Refusals.{refusal_line}
use Rattle.tui_form_run.specs.declared.bad_form.BadForm.{BadForm}
use Rattle.tui_form_run.specs.declared.form_left.FormLeft.{FormLeft}
use Rattle.tui_form_run.specs.declared.form_left.FormLeft.TheVariants.{Accepted}
use Rattle.tui_io.specs.Causes.{WritesAll, WritesPrefix, Observed}
use Rattle.tui_program.specs.Stops.{EndsStopped}
use Rattle.tui_program.specs.Transcript.{Unwritten}
use Rattle.tui_program.specs.declared.stop.Stop.{Stop}
use Rattle.tui_program.specs.declared.stop.Stop.TheVariants as stop
use Rattle.tui_system.specs.Commands.{ComesTo}
use Rattle.tui_system.specs.Opening.{CannotOpen, EndsOpening}
use Rattle.tui_system.specs.Places.{IsPlaceFor, PlaceData, errors}
use Rattle.tui_system.specs.Setting.{AreSettings}
use Rattle.tui_system.specs.System.{Given}
use Rattle.tui_system.specs.declared.settings.Setting.{Setting}

-- ---- the answers

-- an accepted form: its answers were written; or a write failed after the first part of them; or there was no memory
-- for them, and nothing was written
abbrev pub EndsAccepted : List FieldData → Observed → Observed → Result FormLeft (Stop BadForm) → Type 0
EndsAccepted fields old new (Ok Accepted) = WritesAll old new (answers_line fields)
EndsAccepted fields old new (Err stop.WriteFault) = WritesPrefix old new (answers_line fields)
EndsAccepted fields old new (Err stop.NoMemory) = Unwritten old new
EndsAccepted fields old new e = ⊥

-- after a session, the answers of an accepted form are written, and of any other nothing is
abbrev pub EndsAs : List FieldData → Observed → Observed → Result FormLeft (Stop BadForm) → Result FormLeft (Stop BadForm) → Type 0
EndsAs fields old new (Ok Accepted) e = EndsAccepted fields old new e
EndsAs fields old new left e = (e ≡ left) × Unwritten old new

-- after a session that ended with this form
abbrev pub EndsAnswering : FormData → AppEnd → Observed → Observed → Result FormLeft (Stop BadForm) → Type 0
EndsAnswering last end old new e = EndsAs last.fields old new (left_as end last.outcome) e

-- ---- runs

-- where answers go if the arguments name no place: to standard error
abbrev pub or_errors : Option PlaceData → PlaceData
or_errors None = errors
or_errors (Some place) = place

-- How a run ends with a form. `old` and `new` are what is observable of the terminal before and after, `answers` and
-- `answers_then` of the destination of the answers; `opened` is that it could be opened at a place, with the content
-- from before. The destination can't be opened, and the terminal is not entered; or it is open, the form is shown, the
-- terminal is left, and then the answers are written; or memory ran out before the terminal was entered.
pub data EndsWithForm (given : Given) (old new answers answers_then : Observed) (opened : PlaceData → Type 0)
    (asked : Asked) : Result FormLeft (Stop BadForm) → Type 0 where
  cannot_open : Unwritten old new → CannotOpen answers answers_then →
      EndsWithForm given old new answers answers_then opened asked (Err stop.WriteFault)
  out_of_memory : Unwritten old new → Unwritten answers answers_then →
      EndsWithForm given old new answers answers_then opened asked (Err stop.NoMemory)
  shown : (setting : Setting) (place : Option PlaceData) (begin last : code.Form) (end : AppEnd)
      (e : Result FormLeft (Stop BadForm)) → AreSettings given setting →
      IsPlaceFor given asked.files.answers place → opened (or_errors place) → form_data begin ≡ asked.form →
      IsAppRun form_behaviour setting.output begin (area_of 0 0 setting.size.width setting.size.height) old new last end →
      EndsAnswering (form_data last) end answers answers_then e → EndsWithForm given old new answers answers_then opened asked e

-- how a run ends that came to this: with a form; or it was stopped, and nothing is written as answers
abbrev pub EndsAfter : Given → Observed → Observed → Observed → Observed → (PlaceData → Type 0) →
    Result Asked (Stop BadForm) → Result FormLeft (Stop BadForm) → Type 0
EndsAfter given old new answers answers_then opened (Ok asked) e = EndsWithForm given old new answers answers_then opened asked e
EndsAfter given old new answers answers_then opened (Err stopped) e = EndsStopped refusal_line stopped old new e × Unwritten answers answers_then

-- how a run ends whose terminal is open
abbrev pub EndsOn : Given → Observed → Observed → Observed → Observed → (PlaceData → Type 0) → Result FormLeft (Stop BadForm) → Type 0
EndsOn given old new answers answers_then opened e =
    (x : Result Asked (Stop BadForm)) × ComesTo given form_reader x × EndsAfter given old new answers answers_then opened x e

-- how a run on a system ends; `ready` is that the terminal could be opened
abbrev pub Ends : Given → Type 0 → Observed → Observed → Observed → Observed → (PlaceData → Type 0) →
    Result FormLeft (Stop BadForm) → Type 0
Ends given ready old new answers answers_then opened e =
    EndsOpening ready old new (answers_then ≡ answers) (EndsOn given old new answers answers_then opened) e
