-- Rows into which ASCII text is written.
use Rattle.std.specs.Prelude.{◌≡◌, ℕ, ◌-◌, ◌&&◌, nat_le, nat_lt, List, [], ◌∷◌, length, slice_index, slice_index_or, if◌then◌else◌}
use Rattle.tui_cells.specs.Cell.{Look, Edit, blank, write}
use Rattle.tui_cells.specs.Layers.{edits}

-- the cells of a row from one index up to another get the bytes of a text, one a cell, and then other changes
pub record RowWritten (from to : ℕ) (text : List ℕ) (after : List Edit) (old new : List Look) : Type 0 where
  pub len : length new ≡ length old
  pub cells : (i : ℕ) → slice_index_or new i blank
      ≡ (if nat_le from i && nat_lt i to then edits (write (slice_index text (i - from) ∷ []) ∷ after) (slice_index_or old i blank)
      else slice_index_or old i blank)
