-- What holds for every run of the program.
use Rattle.std.specs.Prelude.{◌≡◌, ◌⊎◌, ℕ, false, List, map, slice_get, Contains, Some, IsSome, Err}
use Rattle.json.specs.Json.{document, object}
use Rattle.serde_json.specs.Data.{Data}
use Rattle.tui_app.specs.Run.{IsAppRun}
use Rattle.tui_app.specs.declared.outcome.AppEnd.TheVariants.{Quit}
use Rattle.tui_cells.specs.declared.rect.Rect.{Rect}
use Rattle.tui_form_lib.specs.Field.{FieldData, is_missing}
use Rattle.tui_form_lib.specs.Form.{FormData, form_data}
use Rattle.tui_form_lib.specs.Laws.{form_behaviour}
use Rattle.tui_form_lib.specs.declared.form.Form.{Form}
use Rattle.tui_form_lib.specs.declared.form.Outcome.TheVariants.{Open, Accepted, Left}
use Rattle.tui_form_run.specs.Answers.{answers_text, members_of}
use Rattle.tui_form_run.specs.Faults.{form_fault}
use Rattle.tui_form_run.specs.Input.{form_of}
use Rattle.tui_form_run.specs.declared.bad_form.BadForm.{BadForm}
use Rattle.tui_io.specs.Causes.{Observed}
use Rattle.tui_json.specs.Faults.{Leads}
use Rattle.tui_terminal_model.specs.declared.output.Output.{Output}

-- The text of the answers contains no newline. As JSON it is the object of the names and the answers.
pub record AnswersReadBack : Type 0 where
  pub reads : (fields : List FieldData) → document (answers_text fields) ≡ Some (object (members_of fields))
  pub one_line : (fields : List FieldData) → Contains (answers_text fields) 10 → ⊥

-- each field that is needed is filled in
abbrev pub IsFilled : List FieldData → Type 0
IsFilled fields = (i : ℕ) (f : FieldData) → slice_get fields i ≡ Some f → is_missing f ≡ false

-- a form was left; or it was accepted, and all that is needed is filled in
abbrev pub IsLeftOrFilled : FormData → Type 0
IsLeftOrFilled f = (f.outcome ≡ Left) ⊎ ((f.outcome ≡ Accepted) × IsFilled f.fields)

abbrev pub names_of : FormData → List (List ℕ)
names_of f = map (λ field. field.name) f.fields

-- The form when the user ended its session, if it was open at the start: it was left or filled in, and its fields have
-- the names that they had.
pub record EndsLeftOrFilled : Type 0 where
  pub meant : (o : Output) (begin last : Form) (area : Rect) (old new : Observed) → (form_data begin).outcome ≡ Open →
      IsAppRun form_behaviour o begin area old new last Quit → IsLeftOrFilled (form_data last)
  pub names : (o : Output) (begin last : Form) (area : Rect) (old new : Observed) → (form_data begin).outcome ≡ Open →
      IsAppRun form_behaviour o begin area old new last Quit → names_of (form_data last) ≡ names_of (form_data begin)

-- A form that is rejected has a fault, at the key that the rejection names, and its steps lead to what it says is there.
pub record FormsAreExplained : Type 0 where
  pub found : (d : Data) (bad : BadForm) → form_of d ≡ Err bad → IsSome (form_fault bad d)
  pub leads : (d : Data) (bad : BadForm) → Leads (form_fault bad d) d
