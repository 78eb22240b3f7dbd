-- Where a rejected report has the value that is not valid, and what that should be.
use Rattle.std.specs.Prelude.{ℕ, Option, Some, None, codes}
use Rattle.serde_json.specs.Data.{Data}
use Rattle.serde_json.specs.Find.{as_str}
use Rattle.tui_json.specs.Constraint.{a_constraint, constraint_fault, constraint_of}
use Rattle.tui_json.specs.Faults.{FaultData, WantedData, elements_fault, fault_of, inside_at, member_fault, no_parts, number, values, whole, words}
use Rattle.tui_json.specs.Members.{elements_within}
use Rattle.tui_json.specs.Number.{within}
use Rattle.tui_pages_run.specs.Input.{texts_of}
use Rattle.tui_pages_run.specs.declared.field.ReportField.{ReportField}
use Rattle.tui_pages_run.specs.declared.field.ReportField.TheVariants as fields
use Rattle.tui_pages_run.specs.declared.refusal.PagesRefusal.{PagesRefusal}
use Rattle.tui_pages_run.specs.declared.refusal.PagesRefusal.TheVariants as refusals

-- ---- what the values are

abbrev pub a_string : WantedData
a_string = words (codes "a string")

abbrev pub string_fault : Data → Option FaultData
string_fault = fault_of as_str a_string no_parts

abbrev pub some_columns : WantedData
some_columns = values 1 32 (codes "values")

abbrev pub some_records : WantedData
some_records = values 0 10000 (codes "values")

abbrev pub some_texts : WantedData
some_texts = values 0 32 (codes "strings")

-- ---- fields

-- a field of the report
abbrev pub field_fault : ReportField → Data → Option FaultData
field_fault fields.Width = member_fault (number 1 200) (fault_of (within 1 200) (number 1 200) no_parts) (codes "width")
field_fault fields.Height = member_fault (number 4 200) (fault_of (within 4 200) (number 4 200) no_parts) (codes "height")
field_fault fields.Title = member_fault a_string string_fault (codes "title")
field_fault fields.Columns = member_fault some_columns (fault_of (elements_within 1 32) some_columns no_parts) (codes "columns")
field_fault fields.Records = member_fault some_records (fault_of (elements_within 0 10000) some_records no_parts) (codes "records")
field_fault other = λ d. None

-- a field of a column
abbrev pub column_fault : ReportField → Data → Option FaultData
column_fault fields.Name = member_fault a_string string_fault (codes "name")
column_fault fields.Size = member_fault a_constraint (fault_of constraint_of a_constraint constraint_fault) (codes "size")
column_fault other = λ d. None

-- a record that is no array of strings
abbrev pub record_fault : Data → Option FaultData
record_fault = fault_of texts_of some_texts (elements_fault string_fault)

-- a record that has too many lines
abbrev pub tall_fault : Data → Option FaultData
tall_fault d = Some (whole (words (codes "at most 4096 lines in its columns")) d)

-- the value that is not valid
abbrev pub report_fault : PagesRefusal → Data → Option FaultData
report_fault (refusals.TooTall place) d = inside_at (codes "records") place tall_fault d
report_fault (refusals.BadInput at field) d = by_place at field
  where
    by_place : Option ℕ → ReportField → Option FaultData
    by_place None field = field_fault field d
    by_place (Some i) fields.Records = inside_at (codes "records") i record_fault d
    by_place (Some i) field = inside_at (codes "columns") i (column_fault field) d
