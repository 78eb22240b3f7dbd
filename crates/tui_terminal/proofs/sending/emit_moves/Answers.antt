use Rattle.std.proofs.Common.{◌≡◌, Bool, [], ◌∷◌, cond, flat_map, rules, true, false, sym, ap, ◌∙◌}
use Rattle.tui_io.proofs.Printing.{Prints-none}
use Rattle.tui_terminal_model.specs.Encoding.{encoding}
use Rattle.tui_terminal_model.specs.Terminal.{across, place}
use Rattle.tui_terminal_laws.specs.Sending.{moves_on}
use Rattle.tui_terminal.specs.Sent.{is_there}
use Rattle.tui_terminal.proofs.Texts.{Prints-text, left_out, not_left_out}
use Rattle.tui_terminal.proofs.sending.emit_moves.Goals as goal

pub returns-then-not-is_there : goal.returns-then-not-is_there
returns-then-not-is_there g c =
    let a = c.args in
    let off : c.is_there.result ≡ false = search rules in
    Prints-text (ap (λ (b : Bool). flat_map encoding (cond b (across a.column ∷ []) (place a.column a.y ∷ []))) c.is_before-before.ensures
    ∙ not_left_out (is_there a.at a.column) (moves_on a.y a.at a.column) (sym c.is_there.ensures ∙ off)) c.emit_moves_on.ensures

pub returns-else-not-is_there : goal.returns-else-not-is_there
returns-else-not-is_there g c =
    let a = c.args in
    let on : c.is_there.result ≡ true = search rules in
    Prints-text (left_out (is_there a.at a.column) (moves_on a.y a.at a.column) (sym c.is_there.ensures ∙ on)) (Prints-none _ _)
