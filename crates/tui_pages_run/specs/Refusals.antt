-- Why an input is rejected, and the line that says so.
use Rattle.std.specs.Prelude.{ℕ, List, ◌++◌, Option, codes, decimal}
use Rattle.tui_program.specs.FieldLine.{refused_field}
use Rattle.tui_pages_run.specs.declared.field.ReportField.{ReportField}
use Rattle.tui_pages_run.specs.declared.field.ReportField.TheVariants as fields
use Rattle.tui_pages_run.specs.declared.refusal.PagesRefusal.{PagesRefusal}
use Rattle.tui_pages_run.specs.declared.refusal.PagesRefusal.TheVariants as refusals

-- the name of a field in the input
abbrev pub field_name : ReportField → List ℕ
field_name fields.Width = codes "width"
field_name fields.Height = codes "height"
field_name fields.Title = codes "title"
field_name fields.Columns = codes "columns"
field_name fields.Name = codes "name"
field_name fields.Size = codes "size"
field_name fields.Records = codes "records"

-- the rejection of a field of the input, or of the column or the record with a number
abbrev pub bad_input : Option ℕ → ReportField → PagesRefusal
bad_input at field = refusals.BadInput at field

-- the line of a rejection
abbrev pub refusal_line : PagesRefusal → List ℕ
refusal_line (refusals.BadInput at field) = refused_field (field_name field) at
refusal_line (refusals.TooTall place) = codes "refused: record " ++ (decimal place ++ codes " too tall\n")
