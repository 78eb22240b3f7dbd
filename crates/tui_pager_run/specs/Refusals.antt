-- Why an input is rejected, and the line that says so.
use Rattle.std.specs.Prelude.{ℕ, List, Option, codes}
use Rattle.tui_program.specs.FieldLine.{refused_field}
use Rattle.tui_pager_run.specs.declared.bad_input.BadInput.{BadInput}
use Rattle.tui_pager_run.specs.declared.field.PagerField.{PagerField}
use Rattle.tui_pager_run.specs.declared.field.PagerField.TheVariants as fields

-- the name of a field in the input
abbrev pub field_name : PagerField → List ℕ
field_name fields.Width = codes "width"
field_name fields.Height = codes "height"
field_name fields.Entries = codes "entries"
field_name fields.Title = codes "title"
field_name fields.Body = codes "body"
field_name fields.Keys = codes "keys"

-- the rejection of a field of the input, or of the entry or the key with a number
abbrev pub bad_input : Option ℕ → PagerField → BadInput
bad_input at field = record { at = at; field = field }

-- the line of a rejection
abbrev pub refusal_line : BadInput → List ℕ
refusal_line refusal = refused_field (field_name refusal.field) refusal.at
