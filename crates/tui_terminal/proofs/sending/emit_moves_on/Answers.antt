use Rattle.std.proofs.Common.{[], ◌∷◌, sym, ◌∙◌}
use Rattle.tui_terminal_model.specs.Encoding.{encoding}
use Rattle.tui_terminal_model.specs.Terminal.{across, place}
use Rattle.tui_terminal.proofs.Texts.{Prints-text, first_of, one_text, second_of}
use Rattle.tui_terminal.proofs.sending.emit_moves_on.Goals as goal

pub returns-then-before : goal.returns-then-before
returns-then-before g c =
    let a = c.args in
    Prints-text (sym (one_text encoding (across a.column)) ∙ first_of a.before (across a.column ∷ []) (place a.column a.y ∷ []) c.if-before.true) c.emit_across.ensures

pub returns-else-before : goal.returns-else-before
returns-else-before g c =
    let a = c.args in
    Prints-text (sym (one_text encoding (place a.column a.y)) ∙ second_of a.before (across a.column ∷ []) (place a.column a.y ∷ []) c.if-before.false) c.emit_place.ensures
