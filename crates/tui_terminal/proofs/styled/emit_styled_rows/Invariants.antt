use Rattle.std.proofs.Common.{List, flat_map}
use Rattle.tui_io.specs.Prints.{Prints}
use Rattle.tui_terminal_model.specs.Terminal.{Command}
use Rattle.tui_terminal.specs.StyledCells.{AreFirst, styled_line}
use Rattle.tui_terminal.proofs.styled.emit_styled_rows.Given as goal

abbrev pub invariant-rows : goal.invariant-rows
invariant-rows g l =
    let k = g.K.Sink in
    (rows : List (List Command)) × AreFirst l.depth l.buf l.row rows
    × Prints (k.observed l.fn.sink) (k.observed l.sink) l.fn.print l.print (flat_map styled_line rows)
