use Rattle.std.proofs.Common.{[], ◌∷◌, ◌++◌, arith}
use Rattle.tui_io.proofs.Printing.{Prints-none, Prints-then}
use Rattle.tui_terminal.proofs.Styling.{all_rows, first_more, first_none, rows_text}
use Rattle.tui_terminal.proofs.Texts.{Prints-text}
use Rattle.tui_terminal.proofs.styled.emit_styled_rows.Goals as goal

pub rows-init : goal.rows-init
rows-init g c = ([], first_none _ _, Prints-none _ _)

pub rows-preserved : goal.rows-preserved
rows-preserved g c =
    let inv = c.rows.invariant in
    let row = c.emit_styled_row.ensures in
    let styled = rw c.row_at.ensures at row.1 in
    (inv.0 ++ row.0 ∷ [], first_more c.args.depth c.args.buf.now c.rows.row inv.0 row.0 inv.1 styled, Prints-text (rows_text inv.0 row.0) (Prints-then inv.2 row.2))

pub returns : goal.returns
returns g c =
    let inv = c.rows.invariant in
    (_, all_rows c.args.depth c.args.buf.now c.rows.row inv.0 inv.1 (omega (arith, c.rows-test.false)) (omega arith), inv.2)
