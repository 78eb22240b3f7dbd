use Rattle.std.proofs.Common.{List, ◌++◌, flat_map}
use Rattle.tui_io.specs.Prints.{Prints}
use Rattle.tui_terminal_model.specs.Pens.{pen_of}
use Rattle.tui_terminal_model.specs.Pieces.{pieces, uncovered}
use Rattle.tui_terminal_model.specs.Encoding.{encoding}
use Rattle.tui_terminal_model.specs.Styled.{StyledRow}
use Rattle.tui_terminal_model.specs.Terminal.{Command, rest}
use Rattle.tui_terminal.specs.Seeing.{cover_of}
use Rattle.tui_terminal.proofs.Styling.{row_from}
use Rattle.tui_terminal.proofs.styled.emit_styled_row.Given as goal

abbrev pub invariant-columns : goal.invariant-columns
invariant-columns g l =
    let k = g.K.Sink in
    (done : List Command)
    × ((more : List Command) → StyledRow l.depth (pen_of l.depth l.pen) (pieces 0 (row_from l.row (cover_of l.under) l.column)) more →
    StyledRow l.depth rest (pieces 0 (row_from l.row uncovered 0)) (done ++ more))
    × Prints (k.observed l.fn.sink) (k.observed l.sink) l.fn.print l.print (flat_map encoding done)
