-- The first field whose test fails.
use Rattle.std.specs.Prelude.{ℕ, Option, Result, Ok, Err}
use Rattle.serde_json.specs.Data.{Data}
use Rattle.tui_json.specs.Refusals as tests
use Rattle.tui_json.specs.declared.input_error.InputError.{InputError}
use Rattle.tui_json.specs.declared.input_error.InputError.TheVariants as inputs
use Rattle.tui_schema.specs.Field.{field_name}
use Rattle.tui_schema.specs.declared.bad_field.BadField.{BadField}
use Rattle.tui_schema.specs.declared.error.SceneError.{SceneError}
use Rattle.tui_schema.specs.declared.error.SceneError.TheVariants as errors
use Rattle.tui_schema.specs.declared.field.Field.{Field}

-- the rejection of a field, with the number of its item if it is an item's
abbrev pub bad_field : Option ℕ → Field → BadField
bad_field i f = record { item = i; field = f }

-- the schema's error as an error of any input
abbrev pub input_error : SceneError → InputError BadField
input_error (errors.BadField i f) = inputs.Refused (bad_field i f)
input_error errors.NoMemory = inputs.NoMemory

-- a result with it as that of any input's reader
abbrev pub as_input : {X : Type 0} → Result X SceneError → Result X (InputError BadField)
as_input (Ok x) = Ok x
as_input (Err e) = Err (input_error e)

-- a field that has to be there
abbrev pub required : {A : Type 0} → (Data → Option A) → Option ℕ → Field → Data → Result A BadField
required kind i f d = tests.required kind (field_name f) (bad_field i f) d

-- a field that may be absent or null
abbrev pub optional : {A : Type 0} → (Data → Option A) → Option ℕ → Field → Data → Result (Option A) BadField
optional kind i f d = tests.optional kind (field_name f) (bad_field i f) d

-- a field that may be absent, and for which null is a value
abbrev pub given : {A : Type 0} → (Data → Option A) → Option ℕ → Field → Data → Result (Option A) BadField
given kind i f d = tests.given kind (field_name f) (bad_field i f) d
