use Rattle.std.proofs.Common.{◌≡◌, ℕ, ◌<◌, ◌≤◌, length, slice_index_or}
use Rattle.tui_cells.specs.Cell.{blank}
use Rattle.tui_cells.proofs.row.cells.copy_cells.Given as goal

-- the cells so far are copied, and the others are unchanged
abbrev pub invariant-places : goal.invariant-places
invariant-places l = ((j : ℕ) → j < l.place → slice_index_or l.cells.items j blank ≡ slice_index_or l.others j blank)
    × ((j : ℕ) → l.place ≤ j → slice_index_or l.cells.items j blank ≡ slice_index_or l.fn.cells.items j blank)
    × (length l.cells.items ≡ length l.others)
