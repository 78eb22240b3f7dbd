-- What a failed copy leaves: each cell is unchanged or a copy of the other's.
use Rattle.std.specs.Prelude.{◌≡◌, ℕ, List, [], length, slice_index_or, ◌⊎◌}
use Rattle.tui_cells.specs.Buffer.{Screen, cell_at}
use Rattle.tui_cells.specs.Cell.{Look, blank}

-- a row
pub record IsPartialRowCopy (source old new : List Look) : Type 0 where
  pub len : length new ≡ length old
  pub cells : (i : ℕ) → (slice_index_or new i blank ≡ slice_index_or old i blank) ⊎ (slice_index_or new i blank ≡ slice_index_or source i blank)

-- rows
pub record ArePartialRowCopies (source old new : List (List Look)) : Type 0 where
  pub len : length new ≡ length old
  pub rows : (y : ℕ) → IsPartialRowCopy (slice_index_or source y []) (slice_index_or old y []) (slice_index_or new y [])

-- a buffer
pub record IsPartialCopy (source old new : Screen) : Type 0 where
  pub area : new.area ≡ old.area
  pub cells : (x y : ℕ) → (cell_at new x y ≡ cell_at old x y) ⊎ (cell_at new x y ≡ cell_at source x y)
