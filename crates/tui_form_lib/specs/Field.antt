-- A field as plain data, and its answer.
use Rattle.std.specs.Prelude.{ℕ, ◌&&◌, Bool, List, [], string_bytes, unwrap_or}
use Rattle.tui_form_lib.specs.Value.{ValueData, check, choice, chosen_text, is_empty_value, typed_value, value_data}
use Rattle.tui_form_lib.specs.declared.field.Answer.{Answer}
use Rattle.tui_form_lib.specs.declared.field.Answer.TheVariants as answers
use Rattle.tui_form_lib.specs.declared.field.FormField.{FormField}
use Rattle.tui_input.specs.State.{text_of}

-- a field as plain data
pub record FieldData : Type 0 where
  pub name : List ℕ
  pub label : List ℕ
  pub is_needed : Bool
  pub value : ValueData

-- a field of the code as plain data
abbrev pub field_data : FormField → FieldData
field_data f = record { name = string_bytes f.name; label = string_bytes f.label; is_needed = f.is_needed; value = value_data f.value }

-- an answer as plain data: a text, or yes or no
pub data Reply : Type 0 where
  text_reply : List ℕ → Reply
  flag_reply : Bool → Reply

-- an answer of the code as plain data
abbrev pub answer_data : Answer → Reply
answer_data (answers.Text text) = text_reply text.now
answer_data (answers.Flag flag) = flag_reply flag

-- the answer of a value: the text that is typed or chosen, empty if there is none; or whether a box is checked
abbrev pub answer_of : ValueData → Reply
answer_of (typed_value text is_masked) = text_reply (text_of text)
answer_of (choice texts chosen) = text_reply (unwrap_or (chosen_text texts chosen) [])
answer_of (check is_on) = flag_reply is_on

-- a field is needed and not filled in
abbrev pub is_missing : FieldData → Bool
is_missing f = f.is_needed && is_empty_value f.value
