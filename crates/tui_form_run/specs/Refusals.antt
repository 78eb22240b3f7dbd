-- Why a form is rejected, and the line that says so.
use Rattle.std.specs.Prelude.{ℕ, List, Option, codes}
use Rattle.tui_form_run.specs.declared.bad_form.BadForm.{BadForm}
use Rattle.tui_form_run.specs.declared.key.FormKey.{FormKey}
use Rattle.tui_form_run.specs.declared.key.FormKey.TheVariants.{Title, Fields, Name, Label, Kind, Most, Mask, Of, Needed, Value}
use Rattle.tui_program.specs.FieldLine.{refused_field}

-- the name of a key in the JSON
abbrev pub key_name : FormKey → List ℕ
key_name Title = codes "title"
key_name Fields = codes "fields"
key_name Name = codes "name"
key_name Label = codes "label"
key_name Kind = codes "kind"
key_name Most = codes "most"
key_name Mask = codes "mask"
key_name Of = codes "of"
key_name Needed = codes "needed"
key_name Value = codes "value"

-- a key of the form, or of its field of an index
abbrev pub bad_form : Option ℕ → FormKey → BadForm
bad_form at key = record { at = at; key = key }

-- the line that says why the form is rejected
abbrev pub refusal_line : BadForm → List ℕ
refusal_line x = refused_field (key_name x.key) x.at
