use Rattle.std.proofs.Common.{◌≡◌, rules, true, false}
use Rattle.std.proofs.lemmas.Bool.{both_ways}
use Rattle.tui_io.proofs.Printing.{Prints-none, Prints-then}
use Rattle.tui_terminal.proofs.Texts.{Prints-text, back_other, back_rest}
use Rattle.tui_terminal.proofs.pens.emit_background.Goals as goal

pub returns-then-not-is_reset : goal.returns-then-not-is_reset
returns-then-not-is_reset g c =
    let off : c.is_reset.result ≡ false = search rules in
    Prints-text (back_other c.args.color (λ e. both_ways c.is_reset.result off (c.is_reset.ensures.1 e))) (Prints-then c.push.ensures c.emit_background_text.ensures)

pub returns-else-not-is_reset : goal.returns-else-not-is_reset
returns-else-not-is_reset g c =
    let on : c.is_reset.result ≡ true = search rules in
    Prints-text (back_rest c.args.color (c.is_reset.ensures.0 on)) (Prints-none _ _)
