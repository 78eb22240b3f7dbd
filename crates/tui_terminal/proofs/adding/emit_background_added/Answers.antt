use Rattle.std.proofs.Common.{◌≡◌, rules, true, false, refl}
use Rattle.tui_cells.specs.contracts.color.ColorPartialEq as color
use Rattle.tui_io.proofs.Printing.{Prints-none, Prints-then}
use Rattle.tui_terminal_model.specs.Terminal.{back}
use Rattle.tui_terminal.proofs.AddedTexts.{color_same_text, color_text}
use Rattle.tui_terminal.proofs.Texts.{Prints-text}
use Rattle.tui_terminal.proofs.adding.emit_background_added.Goals as goal

pub returns-then-eq-clause-emitted : goal.returns-then-eq-clause-emitted
returns-then-eq-clause-emitted g c =
    let a = c.args in
    let on : color.TheImpl.ghosts.eq a.was a.is ≡ true = search rules in
    Prints-text (color_same_text a.begun (color.TheImpl.ghosts.eq a.was a.is) (back a.is) on) (Prints-none _ _)

pub returns-else-eq-clause-emitted : goal.returns-else-eq-clause-emitted
returns-else-eq-clause-emitted g c =
    let a = c.args in
    let off : color.TheImpl.ghosts.eq a.was a.is ≡ false = search rules in
    Prints-text (color_text a.begun (color.TheImpl.ghosts.eq a.was a.is) (back a.is) _ refl off) (Prints-then c.emit_lead.ensures c.emit_background_text.ensures)
