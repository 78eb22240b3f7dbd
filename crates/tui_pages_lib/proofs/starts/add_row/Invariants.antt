use Rattle.std.proofs.Common.{◌≡◌, ℕ, List, Some, map}
use Rattle.std.specs.Prelude.{slice_get}
use Rattle.tui_pages_lib.specs.Report.{cells_of}
use Rattle.tui_pages_lib.specs.Starts.{HaveRows, IsLast, continued_pieces}
use Rattle.tui_pages_lib.specs.declared.piece.Piece.{Piece}
use Rattle.tui_pages_lib.proofs.Known.{HaveCells}
use Rattle.tui_pages_lib.proofs.starts.add_row.Given as goal

abbrev pub invariant-columns : goal.invariant-columns
invariant-columns l = (pieces : List Piece) (count : ℕ) → slice_get (continued_pieces pieces) count ≡ Some l.piece → IsLast pieces count l.before →
    HaveRows l.places (map cells_of l.records) pieces count l.fn.starts.items →
    HaveCells l.places (map cells_of l.records) pieces count l._column l.starts.items
