use Rattle.std.proofs.Common.{◌≡◌, rules, true, false, sym, ◌∙◌}
use Rattle.tui_io.proofs.Printing.{Prints-none}
use Rattle.tui_terminal_model.specs.Pens.{add_all, background_added, has_name}
use Rattle.tui_terminal.proofs.Texts.{Prints-text, left_out, not_left_out}
use Rattle.tui_terminal.proofs.adding.emit_unnamed_background_added.Goals as goal

pub returns-then-not-has_name : goal.returns-then-not-has_name
returns-then-not-has_name g c =
    let a = c.args in
    let off : c.has_name.result ≡ false = search rules in
    Prints-text (not_left_out (has_name a.is) (add_all (background_added a.was a.is)) (sym c.has_name.ensures ∙ off)) c.emit_background_alone.ensures

pub returns-else-not-has_name : goal.returns-else-not-has_name
returns-else-not-has_name g c =
    let a = c.args in
    let on : c.has_name.result ≡ true = search rules in
    Prints-text (left_out (has_name a.is) (add_all (background_added a.was a.is)) (sym c.has_name.ensures ∙ on)) (Prints-none _ _)
