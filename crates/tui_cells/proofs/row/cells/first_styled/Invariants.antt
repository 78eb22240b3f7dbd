use Rattle.std.proofs.Common.{◌<◌, ℕ, slice_index_or}
use Rattle.tui_cells.specs.Cell.{IsUnstyled, blank}
use Rattle.tui_cells.proofs.row.cells.first_styled.Given as goal

abbrev pub invariant-places : goal.invariant-places
invariant-places l = (i : ℕ) → i < l.place → IsUnstyled (slice_index_or l.cells i blank)
