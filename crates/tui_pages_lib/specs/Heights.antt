-- Counting the lines of records.
use Rattle.std.specs.Prelude.{ℕ, ◌<◌, ◌≤◌, ◌==◌, true, max, List, length, map, take, fold, zip, slice_index, All, if◌then◌else◌}
use Rattle.tui_layout.specs.declared.segment.Segment.{Segment}
use Rattle.tui_para.specs.Hyphens.{at_blanks}
use Rattle.tui_para.specs.WrappedText.{wrap_text}
use Rattle.tui_text.specs.Text.{raw_text}
use Rattle.tui_text.specs.declared.alignment.Alignment.TheVariants.{Left}

-- how many lines a text has when it is wrapped at a width, without the spaces at which lines break; 0 at width 0
abbrev pub cell_height : ℕ → List ℕ → ℕ
cell_height width text = if width == 0 then 0 else length (wrap_text width (at_blanks true) Left (raw_text text))

-- the greatest number of lines of the cells in their columns, at least 1; a cell past the columns has none
abbrev pub record_height : List Segment → List (List ℕ) → ℕ
record_height places cells = fold max 1 (map (λ (place, cell). cell_height place.width cell) (zip places cells))

-- the heights of all records
abbrev pub heights_of : List Segment → List (List (List ℕ)) → List ℕ
heights_of places records = map (record_height places) records

-- the greatest number of lines of a record of a report
abbrev pub max_lines : ℕ
max_lines = 4096

-- the first record that has more lines
pub record IsFirstTooTall (heights : List ℕ) (place : ℕ) : Type 0 where
  pub inside : place < length heights
  pub taller : max_lines < slice_index heights place
  pub first : All (λ height. height ≤ max_lines) (take place heights)
