-- A report as plain data.
use Rattle.std.specs.Prelude.{ℕ, ◌≡◌, ◌-◌, ◌<◌, ◌≤◌, List, map, All}
use Rattle.tui_layout.specs.Columns.{columns_of}
use Rattle.tui_layout.specs.declared.constraint.Constraint.{Constraint}
use Rattle.tui_layout.specs.declared.flex.Flex.TheVariants.{Start}
use Rattle.tui_layout.specs.declared.segment.Segment.{Segment}
use Rattle.tui_pages_lib.specs.Filling.{pages_of}
use Rattle.tui_pages_lib.specs.Heights.{heights_of, max_lines}
use Rattle.tui_pages_lib.specs.declared.column.Column.{Column}
use Rattle.tui_pages_lib.specs.declared.piece.Piece.{Piece}
use Rattle.tui_pages_lib.specs.declared.records.Record.{Record}

-- a column as plain data
pub record ColumnData : Type 0 where
  pub name : List ℕ
  pub size : Constraint

-- a column of the code as plain data
abbrev pub column_data : Column → ColumnData
column_data c = record { name = c.name.now; size = c.size }

-- the texts of a record
abbrev pub cells_of : Record → List (List ℕ)
cells_of r = map (λ cell. cell.now) r.cells.items

-- a report as plain data
pub record ReportData : Type 0 where
  pub width : ℕ
  pub height : ℕ
  pub title : List ℕ
  pub columns : List ColumnData
  pub records : List (List (List ℕ))
  pub pages : List (List Piece)

-- where the columns are: the width is cut as `split` does, with one free column between two
abbrev pub places_of : ℕ → List ColumnData → List Segment
places_of width columns = columns_of width 1 (map (λ c. c.size) columns) Start

-- the number of lines of each record
abbrev pub report_heights : ReportData → List ℕ
report_heights r = heights_of (places_of r.width r.columns) r.records

-- the pages of these records; the title, the names and the number take three rows of each page
abbrev pub report_of : ℕ → ℕ → List ℕ → List ColumnData → List (List (List ℕ)) → ReportData
report_of width height title columns records = record {
  width = width;
  height = height;
  title = title;
  columns = columns;
  records = records;
  pages = pages_of (heights_of (places_of width columns) records) (height - 3);
}

-- what holds of each report: its size is large enough, its columns are placed, its records have at most 4096 lines, and
-- its pages are those of the records
pub record IsReport (places : List Segment) (width height : ℕ) (columns : List ColumnData) (records : List (List (List ℕ)))
    (pages : List (List Piece)) : Type 0 where
  pub wide : 0 < width
  pub high : 4 ≤ height
  pub placed : places ≡ places_of width columns
  pub bounded : All (λ lines. lines ≤ max_lines) (heights_of places records)
  pub are_pages : pages ≡ pages_of (heights_of places records) (height - 3)
