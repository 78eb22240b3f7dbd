-- The form that a JSON value holds. Its keys are tested in order, and then its fields one by one. The first test that
-- fails decides why the form is rejected.
use Rattle.std.specs.Prelude.{
  ℕ,
  zero,
  suc,
  ◌&&◌,
  ◌||◌,
  nat_le,
  Bool,
  false,
  List,
  [],
  length,
  chars,
  if◌then◌else◌,
  Option,
  Some,
  None,
  option_map,
  option_and_then,
  unwrap_or,
  Result,
  Ok,
}
use Rattle.std.specs.List.{position_from}
use Rattle.std.specs.Str.{bytes_eq}
use Rattle.serde_json.specs.Data.{Data, Items, no_items, item}
use Rattle.serde_json.specs.Find.{as_bool, as_str}
use Rattle.tui_form_lib.specs.Field.{FieldData}
use Rattle.tui_form_lib.specs.Form.{FormData, new_form}
use Rattle.tui_form_lib.specs.Value.{ValueData, check, choice, typed_value}
use Rattle.tui_form_run.specs.Kinds.{kinds}
use Rattle.tui_form_run.specs.Refusals.{bad_form, key_name}
use Rattle.tui_form_run.specs.declared.bad_form.BadForm.{BadForm}
use Rattle.tui_form_run.specs.declared.field_kind.FieldKind.{FieldKind}
use Rattle.tui_form_run.specs.declared.field_kind.FieldKind.TheVariants.{Text, Choice, Check}
use Rattle.tui_form_run.specs.declared.key.FormKey.{FormKey}
use Rattle.tui_form_run.specs.declared.key.FormKey.TheVariants as keys
use Rattle.tui_input.specs.State.{TypedText, empty_input, typed_all}
use Rattle.tui_json.specs.Members.{each_of, elements_within, member}
use Rattle.tui_json.specs.Named.{named_of}
use Rattle.tui_json.specs.Number.{within}
use Rattle.tui_json.specs.Objects.{objects_within}
use Rattle.tui_json.specs.Refusals.{◌>>=◌, numbered, or_reject}
use Rattle.tui_json.specs.Refusals as tests

-- a required key, and one that may be absent or null
abbrev pub required : {A : Type 0} → (Data → Option A) → Option ℕ → FormKey → Data → Result A BadForm
required kind at key d = tests.required kind (key_name key) (bad_form at key) d

abbrev pub optional : {A : Type 0} → (Data → Option A) → Option ℕ → FormKey → Data → Result (Option A) BadForm
optional kind at key d = tests.optional kind (key_name key) (bad_form at key) d

-- ---- names, each once

-- a string of 1 to 64 bytes
abbrev if_name : List ℕ → Option (List ℕ)
if_name text = if nat_le 1 (length text) && nat_le (length text) 64 then Some text else None

abbrev pub name_text : Data → Option (List ℕ)
name_text d = option_and_then if_name (as_str d)

-- the first n of some values
abbrev pub first_items : ℕ → Items → Items
first_items zero ds = no_items
first_items (suc n) no_items = no_items
first_items (suc n) (item d ds) = item d (first_items n ds)

-- a value has this name
abbrev pub has_name : List ℕ → Data → Bool
has_name name d = unwrap_or (option_map (bytes_eq name) (member as_str (key_name keys.Name) d)) false

-- one of some values has it
unfoldable pub is_taken : List ℕ → Items → Bool
is_taken name no_items = false
is_taken name (item d ds) = has_name name d || is_taken name ds

abbrev pub unless_taken : List ℕ → Items → Option (List ℕ)
unless_taken name ds = if is_taken name ds then None else Some name

-- the name of the value at an index: no value before it has that name
unfoldable pub name_of : Items → ℕ → Data → Result (List ℕ) BadForm
name_of values i d = do
  name ← required name_text (Some i) keys.Name d
  or_reject (bad_form (Some i) keys.Name) (unless_taken name (first_items i values))

-- ---- the initial value of a field, and whether it is needed

abbrev pub Filled : Type 0
Filled = Bool × ValueData

-- the initial text, typed into an empty one
abbrev pub initial_text : Option ℕ → Option (List ℕ) → TypedText
initial_text most text = typed_all (empty_input (unwrap_or most 1000)) (chars (unwrap_or text []))

unfoldable pub typed_text_of : ℕ → Data → Result Filled BadForm
typed_text_of i d = do
  most ← optional (within 1 1000) (Some i) keys.Most d
  mask ← optional as_bool (Some i) keys.Mask d
  needed ← optional as_bool (Some i) keys.Needed d
  text ← optional as_str (Some i) keys.Value d
  Ok (unwrap_or needed false, typed_value (initial_text most text) (unwrap_or mask false))

-- an array of 1 to 100 strings
unfoldable pub texts_of : Data → Option (List (List ℕ))
texts_of d = option_and_then (each_of as_str) (elements_within 1 100 d)

-- the index of the first of some texts that equals this one
abbrev pub place_of : List ℕ → List (List ℕ) → Option ℕ
place_of text texts = position_from (λ t. bytes_eq t text) 0 texts

-- the initial choice: none if no text is given, and otherwise the index of the text, which must be one of these
abbrev pub initial_choice : List (List ℕ) → Option (List ℕ) → Option (Option ℕ)
initial_choice texts None = Some None
initial_choice texts (Some text) = option_map Some (place_of text texts)

unfoldable pub choice_of : ℕ → Data → Result Filled BadForm
choice_of i d = do
  texts ← required texts_of (Some i) keys.Of d
  needed ← optional as_bool (Some i) keys.Needed d
  text ← optional as_str (Some i) keys.Value d
  chosen ← or_reject (bad_form (Some i) keys.Value) (initial_choice texts text)
  Ok (unwrap_or needed false, choice texts chosen)

unfoldable pub check_of : ℕ → Data → Result Filled BadForm
check_of i d = do
  needed ← optional as_bool (Some i) keys.Needed d
  is_on ← optional as_bool (Some i) keys.Value d
  Ok (unwrap_or needed false, check (unwrap_or is_on false))

abbrev pub filled_of : FieldKind → ℕ → Data → Result Filled BadForm
filled_of Text = typed_text_of
filled_of Choice = choice_of
filled_of Check = check_of

-- ---- fields and forms

-- the field at an index among these values
unfoldable pub field_of : Items → ℕ → Data → Result FieldData BadForm
field_of values i d = do
  name ← name_of values i d
  label ← required as_str (Some i) keys.Label d
  kind ← required (named_of kinds) (Some i) keys.Kind d
  filled ← filled_of kind i d
  Ok (record { name = name; label = label; is_needed = filled.0; value = filled.1 })

-- the form, open and with the focus on its first field, or why it is rejected
unfoldable pub form_of : Data → Result FormData BadForm
form_of d = do
  title ← required as_str None keys.Title d
  values ← required (objects_within 1 64) None keys.Fields d
  fields ← numbered (field_of values) 0 values
  Ok (new_form title fields)
