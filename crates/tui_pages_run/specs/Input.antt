-- The input: its fields in order, then each column and each record. The first test that fails rejects it.
use Rattle.std.specs.Prelude.{ℕ, nat_lt, List, map, Option, Some, None, option_and_then, Result, Ok, Err}
use Rattle.std.specs.List.{position}
use Rattle.serde_json.specs.Data.{Data}
use Rattle.serde_json.specs.Find.{as_str}
use Rattle.tui_json.specs.Constraint.{constraint_of}
use Rattle.tui_json.specs.Members.{each_of, elements_within}
use Rattle.tui_json.specs.Number.{within}
use Rattle.tui_json.specs.Refusals.{◌>>=◌, numbered, or_reject}
use Rattle.tui_json.specs.Refusals as tests
use Rattle.tui_pages_lib.specs.Heights.{heights_of, max_lines}
use Rattle.tui_pages_lib.specs.Report.{ColumnData, ReportData, cells_of, column_data, places_of, report_of}
use Rattle.tui_pages_run.specs.Refusals.{bad_input, field_name}
use Rattle.tui_pages_run.specs.declared.field.ReportField.{ReportField}
use Rattle.tui_pages_run.specs.declared.field.ReportField.TheVariants as fields
use Rattle.tui_pages_run.specs.declared.input.Input.{Input}
use Rattle.tui_pages_run.specs.declared.input.Sheet.{Sheet}
use Rattle.tui_pages_run.specs.declared.refusal.PagesRefusal.{PagesRefusal}
use Rattle.tui_pages_run.specs.declared.refusal.PagesRefusal.TheVariants as refusals

-- a field that has to be there
abbrev pub required : {A : Type 0} → (Data → Option A) → Option ℕ → ReportField → Data → Result A PagesRefusal
required kind at field d = tests.required kind (field_name field) (bad_input at field) d

-- the size of the pages, and the title
pub record SheetData : Type 0 where
  pub width : ℕ
  pub height : ℕ
  pub title : List ℕ

-- the sheet of the code as plain data
abbrev pub sheet_data : Sheet → SheetData
sheet_data s = record { width = s.width; height = s.height; title = s.title.now }

-- the fields of a sheet; a value that is no object has no fields, so it is rejected at `width`
unfoldable pub sheet_of : Data → Result SheetData PagesRefusal
sheet_of d = do
  width ← required (within 1 200) None fields.Width d
  height ← required (within 4 200) None fields.Height d
  title ← required as_str None fields.Title d
  Ok (record { width = width; height = height; title = title })

-- a column with its number; a value that is no object is rejected at `name`
unfoldable pub column_of : ℕ → Data → Result ColumnData PagesRefusal
column_of i d = do
  name ← required as_str (Some i) fields.Name d
  size ← required constraint_of (Some i) fields.Size d
  Ok (record { name = name; size = size })

-- the strings of a record
unfoldable pub texts_of : Data → Option (List (List ℕ))
texts_of d = option_and_then (each_of as_str) (elements_within 0 32 d)

-- a record with its number
abbrev pub record_of : ℕ → Data → Result (List (List ℕ)) PagesRefusal
record_of i d = or_reject (bad_input (Some i) fields.Records) (texts_of d)

-- the pages' size and title, the columns, and the records
pub record InputData : Type 0 where
  pub sheet : SheetData
  pub columns : List ColumnData
  pub records : List (List (List ℕ))

-- an input of the code as plain data
abbrev pub input_data : Input → InputData
input_data input = record {
  sheet = sheet_data input.sheet;
  columns = map column_data input.columns.items;
  records = map cells_of input.records.items;
}

-- the whole input, or why it is rejected
unfoldable pub input_of : Data → Result InputData PagesRefusal
input_of d = do
  sheet ← sheet_of d
  column_values ← required (elements_within 1 32) None fields.Columns d
  columns ← numbered column_of 0 column_values
  record_values ← required (elements_within 0 10000) None fields.Records d
  records ← numbered record_of 0 record_values
  Ok (record { sheet = sheet; columns = columns; records = records })

-- the first record that has more lines than a report may have
abbrev pub first_too_tall : InputData → Option ℕ
first_too_tall input =
    position (nat_lt max_lines) (heights_of (places_of input.sheet.width input.columns) input.records)

-- the report of an input, unless a record is too tall
abbrev pub report_or_too_tall : InputData → Option ℕ → Result ReportData PagesRefusal
report_or_too_tall input (Some place) = Err (refusals.TooTall place)
report_or_too_tall input None = Ok (report_of input.sheet.width input.sheet.height input.sheet.title input.columns input.records)

-- the report that a value stands for, or why it is rejected
unfoldable pub report_in : Data → Result ReportData PagesRefusal
report_in d = do
  input ← input_of d
  report_or_too_tall input (first_too_tall input)
