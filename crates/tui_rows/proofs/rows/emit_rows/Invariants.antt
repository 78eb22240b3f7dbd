use Rattle.std.proofs.Common.{take, flat_map}
use Rattle.tui_io.specs.Prints.{Prints}
use Rattle.tui_rows.specs.RowLine.{row_line}
use Rattle.tui_rows.proofs.rows.emit_rows.Given as goal

abbrev pub invariant-rows : goal.invariant-rows
invariant-rows g l =
    let k = g.K.Sink in
    Prints (k.observed l.fn.sink) (k.observed l.sink) l.fn.print l.print (flat_map row_line (take l.number l.buf.rows))
