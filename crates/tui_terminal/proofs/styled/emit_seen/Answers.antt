use Rattle.std.proofs.Common.{[]}
use Rattle.std.proofs.lemmas.Bool.{cond-true, cond-false}
use Rattle.tui_io.proofs.Printing.{Prints-none, Prints-then}
use Rattle.tui_terminal.proofs.Styling.{cell_text, hides_cell, shows_cell}
use Rattle.tui_terminal.proofs.Texts.{Prints-text}
use Rattle.tui_terminal.proofs.styled.emit_seen.Goals as goal

pub returns-then-seen : goal.returns-then-seen
returns-then-seen g c =
    let seen = c.args.seen in
    let change = c.emit_change.ensures in
    let is = cond-true seen.shows _ _ c.if-seen.true in (
      _,
      shows_cell c.args.depth _ _ seen.symbol.now seen.attributes change.0 is change.1,
      Prints-text (cell_text change.0 seen.symbol.now) (Prints-then change.2 c.text.ensures),
    )

pub returns-else-seen : goal.returns-else-seen
returns-else-seen g c =
    let is = cond-false c.args.seen.shows _ _ c.if-seen.false in
    ([], hides_cell c.args.depth _ _ is, Prints-none _ _)
