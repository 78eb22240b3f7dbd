-- What holds while lines are passed.
use Rattle.std.specs.Prelude.{◌≡◌, ℕ, ◌+◌, ◌<◌, Bool, List, length, slice_index}
use Rattle.tui_line_places.specs.AfterLine.{IsFromLine, BeginsLine}

-- an offset for each line that was passed, and for the one after them
pub record HasPassed (w : ℕ) (trim : Bool) (text places rest : List ℕ) : Type 0 where
  pub passed : ℕ
  pub many : length places ≡ passed + 1
  pub from : IsFromLine w trim passed text rest
  pub each : (k : ℕ) → k < length places → BeginsLine w trim text k (slice_index places k)
