-- A form as plain data.
use Rattle.std.specs.Prelude.{ℕ, Bool, false, List, map, string_bytes, Option, None}
use Rattle.tui_form_lib.specs.Field.{FieldData, field_data}
use Rattle.tui_form_lib.specs.declared.form.Form as code
use Rattle.tui_form_lib.specs.declared.form.Outcome.{Outcome}
use Rattle.tui_form_lib.specs.declared.form.Outcome.TheVariants.{Open}

-- A form as plain data: its title and fields; the index of the field that has the focus; the first field that is drawn;
-- the field that is marked as needed; whether the last key was Esc; whether a paste is being ignored; and the form's
-- outcome.
pub record FormData : Type 0 where
  pub title : List ℕ
  pub fields : List FieldData
  pub focus : ℕ
  pub offset : ℕ
  pub reported : Option ℕ
  pub is_escaped : Bool
  pub is_skipping : Bool
  pub outcome : Outcome

-- a form of the code as plain data
abbrev pub form_data : code.Form → FormData
form_data f = record {
  title = string_bytes f.title;
  fields = map field_data f.fields.items;
  focus = f.focus;
  offset = f.offset;
  reported = f.reported;
  is_escaped = f.is_escaped;
  is_skipping = f.is_skipping;
  outcome = f.outcome;
}

-- an open form whose first field has the focus
abbrev pub new_form : List ℕ → List FieldData → FormData
new_form title fields = record {
  title = title;
  fields = fields;
  focus = 0;
  offset = 0;
  reported = None;
  is_escaped = false;
  is_skipping = false;
  outcome = Open;
}
