use Rattle.std.proofs.Common.{[], rules}
use Rattle.tui_rows.specs.RowLine.{row_line}
use Rattle.tui_io.proofs.Printing.{Prints-then}
use Rattle.tui_rows.proofs.RowLemmas.{rows_more}
use Rattle.tui_rows.proofs.rows.emit_rows.Goals as goal

pub rows-preserved : goal.rows-preserved
rows-preserved g c =
    let row = rw c.row_at.ensures at c.emit_row.ensures in
    rw (rows_more row_line c.args.buf.now.rows c.rows.number [] (search rules)) (Prints-then c.rows.invariant row)
