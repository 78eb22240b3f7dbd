-- The input: its fields in order, then each entry and each key. The first test that fails rejects it.
use Rattle.std.specs.Prelude.{ℕ, List, map, Option, Some, None, option_map, Result, Ok}
use Rattle.serde_json.specs.Data.{Data}
use Rattle.tui_json.specs.Members.{elements_within, pair_of}
use Rattle.tui_json.specs.Named.{named_of}
use Rattle.tui_json.specs.Number.{within}
use Rattle.tui_json.specs.Refusals.{◌>>=◌, numbered, or_reject}
use Rattle.tui_json.specs.Refusals as tests
use Rattle.tui_json.specs.Text.{short}
use Rattle.tui_pager_run.specs.Keys.{keys}
use Rattle.tui_pager_run.specs.Refusals.{bad_input, field_name}
use Rattle.tui_pager_run.specs.declared.bad_input.BadInput.{BadInput}
use Rattle.tui_pager_run.specs.declared.field.PagerField.{PagerField}
use Rattle.tui_pager_run.specs.declared.field.PagerField.TheVariants as fields
use Rattle.tui_pager_run.specs.declared.input.Input.{Input}
use Rattle.tui_pager_run.specs.declared.step.PagerStep.{PagerStep}
use Rattle.tui_pager_run.specs.declared.step.PagerStep.TheVariants as step
use Rattle.tui_pager_lib.specs.Entry.{EntryData, entry_data}
use Rattle.tui_pager_lib.specs.Laws.{Call, press, resize}
use Rattle.tui_pager_lib.specs.declared.key.Key.{Key}
use Rattle.tui_pager_lib.specs.declared.size.PagerSize.{PagerSize}

-- a field that has to be there
abbrev pub required : {A : Type 0} → (Data → Option A) → Option ℕ → PagerField → Data → Result A BadInput
required kind at field d = tests.required kind (field_name field) (bad_input at field) d

-- a width and a height, as an array of two numbers
abbrev pub size_of : Data → Option (ℕ × ℕ)
size_of d = pair_of (within 12 200) (within 5 100) d

-- a size of the code as its columns and rows
abbrev pub size_data : PagerSize → ℕ × ℕ
size_data size = (size.width, size.height)

-- the size of the screen, or why it is rejected; a value that is no object has no fields, so it is rejected at `width`
unfoldable pub screen_size_of : Data → Result (ℕ × ℕ) BadInput
screen_size_of d = do
  width ← required (within 12 200) None fields.Width d
  height ← required (within 5 100) None fields.Height d
  Ok (width, height)

-- an entry with its number; a value that is no object is rejected at `title`
unfoldable pub entry_of : ℕ → Data → Result EntryData BadInput
entry_of i d = do
  title ← required (short 1000) (Some i) fields.Title d
  body ← required (short 65536) (Some i) fields.Body d
  Ok (record { title = title; body = body })

-- a key's name, or a size
abbrev call_or_size : Option Key → Data → Option Call
call_or_size (Some key) d = Some (press key)
call_or_size None d = option_map (λ size. resize size.0 size.1) (size_of d)

-- a key by its name, or another size
abbrev pub call_of : Data → Option Call
call_of d = call_or_size (named_of keys d) d

-- a step of the code as the call that it makes
abbrev pub step_call : PagerStep → Call
step_call (step.Press key) = press key
step_call (step.Resize size) = resize size.width size.height

-- a key with its number
abbrev pub key_of : ℕ → Data → Result Call BadInput
key_of i d = or_reject (bad_input (Some i) fields.Keys) (call_of d)

-- the size of the screen, the entries, and the calls that the keys stand for
pub record InputData : Type 0 where
  pub size : ℕ × ℕ
  pub entries : List EntryData
  pub calls : List Call

-- an input of the code as plain data
abbrev pub input_data : Input → InputData
input_data input = record {
  size = size_data input.size;
  entries = map entry_data input.entries.items;
  calls = map step_call input.steps.items;
}

-- the whole input, or why it is rejected
unfoldable pub input_of : Data → Result InputData BadInput
input_of d = do
  size ← screen_size_of d
  entry_values ← required (elements_within 0 1000) None fields.Entries d
  entries ← numbered entry_of 0 entry_values
  key_values ← required (elements_within 0 1000) None fields.Keys d
  calls ← numbered key_of 0 key_values
  Ok (record { size = size; entries = entries; calls = calls })
