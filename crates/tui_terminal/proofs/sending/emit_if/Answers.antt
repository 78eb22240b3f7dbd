use Rattle.std.proofs.Common.{◌+◌, ◌∙◌}
use Rattle.tui_io.proofs.Printing.{Prints-none}
use Rattle.tui_terminal.specs.Seeing.{look_in}
use Rattle.tui_terminal.proofs.Texts.{Prints-text}
use Rattle.tui_terminal.proofs.Walking.{here_next, here_text, none_next, none_text}
use Rattle.tui_terminal.proofs.sending.emit_if.Goals as goal

pub returns-then-spot-clause-next : goal.returns-then-spot-clause-next
returns-then-spot-clause-next g c =
    let a = c.args in
    c.emit_piece.ensures.next ∙ here_next a.target.output a.at a.spot.wanted (a.target.left + a.spot.place) (look_in a.seen) c.if-spot.true

pub returns-then-spot-clause-emitted : goal.returns-then-spot-clause-emitted
returns-then-spot-clause-emitted g c =
    let a = c.args in
    Prints-text (here_text a.target.output a.target.y a.at a.spot.wanted (a.target.left + a.spot.place) (look_in a.seen) c.if-spot.true) c.emit_piece.ensures.emitted

pub returns-else-spot-clause-next : goal.returns-else-spot-clause-next
returns-else-spot-clause-next g c =
    let a = c.args in
    none_next a.target.output a.at a.spot.wanted (a.target.left + a.spot.place) (look_in a.seen) c.if-spot.false

pub returns-else-spot-clause-emitted : goal.returns-else-spot-clause-emitted
returns-else-spot-clause-emitted g c =
    let a = c.args in
    Prints-text (none_text a.target.output a.target.y a.at a.spot.wanted (a.target.left + a.spot.place) (look_in a.seen) c.if-spot.false) (Prints-none _ _)
