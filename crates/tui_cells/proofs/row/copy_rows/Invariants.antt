use Rattle.std.proofs.Common.{◌≡◌, [], ℕ, ◌<◌, ◌≤◌, length, slice_index_or}
use Rattle.tui_cells.proofs.row.copy_rows.Given as goal

-- the rows so far are copied, and the others are unchanged
abbrev pub invariant-rows : goal.invariant-rows
invariant-rows l = ((j : ℕ) → j < l.y → slice_index_or l.rows.items j [] ≡ slice_index_or l.others j [])
    × ((j : ℕ) → l.y ≤ j → slice_index_or l.rows.items j [] ≡ slice_index_or l.fn.rows.items j [])
    × (length l.rows.items ≡ length l.others)
