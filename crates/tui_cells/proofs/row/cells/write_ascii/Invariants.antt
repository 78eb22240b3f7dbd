use Rattle.std.proofs.Common.{[], ◌+◌}
use Rattle.tui_cells.specs.RowWriting.{RowWritten}
use Rattle.tui_cells.proofs.row.cells.write_ascii.Given as goal

abbrev pub invariant-bytes : goal.invariant-bytes
invariant-bytes l = RowWritten l.from (l.from + l.i) l.text [] l.fn.cells.items l.cells.items
