use Rattle.std.proofs.Common.{◌≡◌, rules, true, false, sym, ap, ◌∙◌, flat_map, List, arith}
use Rattle.std.proofs.lemmas.Bool.{cond-true, cond-false}
use Rattle.tui_text.specs.Visible.{PlacedCell}
use Rattle.tui_terminal_model.specs.Encoding.{encoding}
use Rattle.tui_terminal_laws.specs.Sending.{nothing_known, send}
use Rattle.tui_terminal_laws.specs.Sent.{in_full, changes, row_shown}
use Rattle.tui_terminal.specs.Sent.{is_calm_both}
use Rattle.tui_terminal.proofs.Texts.{Prints-text}
use Rattle.tui_terminal.proofs.rows.emit_uncertain_changes.Goals as goal

pub is_calm-requires : goal.is_calm-requires
is_calm-requires g c = (c.requires.0, omega (arith, c.requires.1))

pub emit_new-requires : goal.emit_new-requires
emit_new-requires g c = c.requires

pub returns-then-is_calm : goal.returns-then-is_calm
returns-then-is_calm g c =
    let a = c.args in
    let widths = a.target.output.widths in
    let olds = row_shown widths a.old.now in
    let news = row_shown widths a.new.now in
    let calm : c.is_calm.result ≡ true = search rules in
    let is = cond-true (is_calm_both widths a.target.left a.old.now a.new.now) (changes widths a.target.left olds news) (in_full widths a.target.left news) (sym (c.is_calm.ensures a.target.left) ∙ calm) in
    Prints-text (ap (λ (ps : List PlacedCell). flat_map encoding (send a.target.output a.target.y nothing_known ps)) (sym is)) c.emit_new.ensures

pub returns-else-is_calm : goal.returns-else-is_calm
returns-else-is_calm g c =
    let a = c.args in
    let widths = a.target.output.widths in
    let olds = row_shown widths a.old.now in
    let news = row_shown widths a.new.now in
    let calm : c.is_calm.result ≡ false = search rules in
    let is = cond-false (is_calm_both widths a.target.left a.old.now a.new.now) (changes widths a.target.left olds news) (in_full widths a.target.left news) (sym (c.is_calm.ensures a.target.left) ∙ calm) in
    Prints-text (ap (λ (ps : List PlacedCell). flat_map encoding (send a.target.output a.target.y nothing_known ps)) (sym is)) c.emit_all.ensures
