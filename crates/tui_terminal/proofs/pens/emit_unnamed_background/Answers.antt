use Rattle.std.proofs.Common.{◌≡◌, rules, true, false}
use Rattle.tui_io.proofs.Printing.{Prints-none, Prints-then}
use Rattle.tui_terminal.proofs.Texts.{Prints-text, reached_off, reached_on}
use Rattle.tui_terminal.proofs.pens.emit_unnamed_background.Goals as goal

pub returns-then-not-has_name : goal.returns-then-not-has_name
returns-then-not-has_name g c =
    let off : c.has_name.result ≡ false = search rules in
    Prints-text (reached_on c.args.color c.has_name.result c.has_name.ensures off)
    (Prints-then c.text.ensures (Prints-then c.emit_background_text.ensures c.push.ensures))

pub returns-else-not-has_name : goal.returns-else-not-has_name
returns-else-not-has_name g c =
    let on : c.has_name.result ≡ true = search rules in
    Prints-text (reached_off c.args.color c.has_name.result c.has_name.ensures on) (Prints-none _ _)
