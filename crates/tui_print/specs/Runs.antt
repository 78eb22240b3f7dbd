-- The runs of a row: neighbouring cells with equal colours and modifiers.
use Rattle.std.specs.Prelude.{◌≡◌, ◌≢◌, ℕ, ◌+◌, ◌<◌, ◌≤◌, List, Option, Some, All, AllPairs, Contains, slice_get}
use Rattle.std.specs.Option.{option_map}
use Rattle.tui_cells.specs.declared.attributes.Attributes.{Attributes}
use Rattle.tui_cells.specs.Cell.{Look, blank}

-- the colours and the modifiers of a cell
abbrev pub attributes_of : Look → Attributes
attributes_of c = record { fg = c.fg; bg = c.bg; modifier = record { bits = c.modifier } }

-- unstyled: both colours Reset, no modifier
abbrev pub unstyled_attributes : Attributes
unstyled_attributes = attributes_of blank

-- the attributes of the cell in a column, if the row has that column
abbrev pub attributes_at : List Look → ℕ → Option Attributes
attributes_at row column = option_map attributes_of (slice_get row column)

-- `len` cells from a column on, and the attributes that each of them has
pub record StyleRun : Type 0 where
  pub start : ℕ
  pub len : ℕ
  pub attributes : Attributes

-- a maximal run of a row: its cells have its attributes, which are not unstyled, and the cells before and after it
-- don't have them
pub record IsStyleRun (row : List Look) (run : StyleRun) : Type 0 where
  pub some : 0 < run.len
  pub alike : (x : ℕ) → run.start ≤ x → x < run.start + run.len → attributes_at row x ≡ Some run.attributes
  pub styled : run.attributes ≢ unstyled_attributes
  pub first : (x : ℕ) → x + 1 ≡ run.start → attributes_at row x ≢ Some run.attributes
  pub last : attributes_at row (run.start + run.len) ≢ Some run.attributes

-- all the runs of a row, from the left
pub record AreStyleRuns (row : List Look) (runs : List StyleRun) : Type 0 where
  pub each : All (IsStyleRun row) runs
  pub every : (run : StyleRun) → IsStyleRun row run → Contains runs run
  pub in_order : AllPairs (λ one later. one.start < later.start) runs
