use Rattle.std.proofs.Common.{◌≡◌, rules, true, false, sym, ◌∙◌}
use Rattle.tui_io.proofs.Printing.{Prints-none}
use Rattle.tui_terminal_model.specs.Pens.{background_added, has_name}
use Rattle.tui_terminal.proofs.AddedTexts.{dropped_begun, dropped_text, kept_begun, kept_text}
use Rattle.tui_terminal.proofs.Texts.{Prints-text}
use Rattle.tui_terminal.proofs.adding.emit_named_added.Goals as goal

pub returns-then-has_name-clause-next : goal.returns-then-has_name-clause-next
returns-then-has_name-clause-next g c =
    let a = c.args in
    let on : c.has_name.result ≡ true = search rules in
    c.emit_background_added.ensures.next ∙ kept_begun a.begun (has_name a.is) (background_added a.was a.is) (sym c.has_name.ensures ∙ on)

pub returns-then-has_name-clause-emitted : goal.returns-then-has_name-clause-emitted
returns-then-has_name-clause-emitted g c =
    let a = c.args in
    let on : c.has_name.result ≡ true = search rules in
    Prints-text (kept_text a.begun (has_name a.is) (background_added a.was a.is) (sym c.has_name.ensures ∙ on)) c.emit_background_added.ensures.emitted

pub returns-else-has_name-clause-next : goal.returns-else-has_name-clause-next
returns-else-has_name-clause-next g c =
    let a = c.args in
    let off : c.has_name.result ≡ false = search rules in
    dropped_begun a.begun (has_name a.is) (background_added a.was a.is) (sym c.has_name.ensures ∙ off)

pub returns-else-has_name-clause-emitted : goal.returns-else-has_name-clause-emitted
returns-else-has_name-clause-emitted g c =
    let a = c.args in
    let off : c.has_name.result ≡ false = search rules in
    Prints-text (dropped_text a.begun (has_name a.is) (background_added a.was a.is) (sym c.has_name.ensures ∙ off)) (Prints-none _ _)
