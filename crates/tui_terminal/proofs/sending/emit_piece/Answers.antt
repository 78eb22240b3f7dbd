use Rattle.tui_io.proofs.Printing.{Prints-then}
use Rattle.tui_text.specs.Visible.{PlacedCell}
use Rattle.tui_terminal_laws.specs.Sending.{moves, paints}
use Rattle.tui_terminal.specs.Sent.{placed_at}
use Rattle.tui_terminal.proofs.Texts.{Prints-text, piece_text}
use Rattle.tui_terminal.proofs.sending.emit_piece.Goals as goal

pub returns-clause-emitted : goal.returns-clause-emitted
returns-clause-emitted g c =
    let p : PlacedCell = placed_at c.args.piece.column c.args.piece.symbol.now c.args.piece.attributes in
    Prints-text (piece_text (moves c.args.target.y c.args.at p) (paints c.args.target.output.depth c.args.at p) c.args.piece.symbol.now)
    (Prints-then c.emit_moves.ensures (Prints-then c.emit_paints.ensures c.emit_symbol.ensures))
