-- What is left alone.
use Rattle.std.proofs.Common.{◌≡◌, refl, sym, subst}
use Rattle.std.specs.Prelude.{Option, None, Some, Result, option_map, unwrap_or}
use Rattle.tui_app.specs.declared.outcome.AppEnd.{AppEnd}
use Rattle.tui_form_lib.specs.Form.{FormData}
use Rattle.tui_form_run.specs.Asked.{Asked}
use Rattle.tui_form_run.specs.Ends.{EndsAnswering, EndsWithForm, or_errors}
use Rattle.tui_form_run.specs.Refusals.{refusal_line}
use Rattle.tui_form_run.specs.declared.bad_form.BadForm.{BadForm}
use Rattle.tui_form_run.specs.declared.form_left.FormLeft.{FormLeft}
use Rattle.tui_io.proofs.Outside.{Keeps-self}
use Rattle.tui_io.specs.Causes.{Observed}
use Rattle.tui_program.specs.Stops.{WritesLine, line_of}
use Rattle.tui_program.specs.Transcript.{Unwritten}
use Rattle.tui_program.specs.declared.stop.Stop.{Stop}
use Rattle.tui_system.specs.Places.{PlaceData, place_data}
use Rattle.tui_system.specs.System.{Given}
use Rattle.tui_system.specs.declared.place.Place.{Place}
use Rattle.tui_system.specs.declared.place.Place.TheVariants as places

-- nothing was written if the state is the same
pub untouched : (t : Observed) → Unwritten t t
untouched t = record { held = Keeps-self t.bytes; quiet = refl }

pub untouched_same : (old new : Observed) → new ≡ old → Unwritten old new
untouched_same old new is = subst (λ (t : Observed). Unwritten old t) (sym is) (untouched old)

-- the place of answers, if the arguments may name none
pub place_or_errors : (place : Option Place) → place_data (unwrap_or place places.Errors) ≡ or_errors (option_map place_data place)
place_or_errors None = refl
place_or_errors (Some place) = refl

-- what is written to a destination that was opened
pub after_opening : (last : FormData) (end : AppEnd) (old ready new : Observed) (e : Result FormLeft (Stop BadForm)) → ready ≡ old →
    EndsAnswering last end ready new e → EndsAnswering last end old new e
after_opening last end old ready new e is h = subst (λ (t : Observed). EndsAnswering last end t new e) is h

-- a run that was stopped before anything else changed
pub ends_stopped : (old terminal new answers answers_then : Observed) (stopped e : Stop BadForm) → terminal ≡ old → answers_then ≡ answers →
    WritesLine (line_of refusal_line stopped) stopped terminal new e → WritesLine (line_of refusal_line stopped) stopped old new e × Unwritten answers answers_then
ends_stopped old terminal new answers answers_then stopped e same still h =
    (subst (λ (o : Observed). WritesLine (line_of refusal_line stopped) stopped o new e) same h, untouched_same answers answers_then still)

-- a form that is asked with
pub ends_with : (given : Given) (old new answers answers_then : Observed) (opened : PlaceData → Type 0) (input asked : Asked) (e : Result FormLeft (Stop BadForm)) →
    input ≡ asked → EndsWithForm given old new answers answers_then opened asked e → EndsWithForm given old new answers answers_then opened input e
ends_with given old new answers answers_then opened input asked e is h =
    subst (λ (a : Asked). EndsWithForm given old new answers answers_then opened a e) (sym is) h
