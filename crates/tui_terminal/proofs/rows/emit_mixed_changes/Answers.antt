use Rattle.std.proofs.Common.{◌≡◌, rules, true, sym, ap, ◌∙◌, flat_map, List}
use Rattle.std.proofs.lemmas.Bool.{and_parts}
use Rattle.tui_text.specs.Visible.{PlacedCell}
use Rattle.tui_terminal_model.specs.Encoding.{encoding}
use Rattle.tui_terminal_laws.specs.Sending.{nothing_known, send}
use Rattle.tui_terminal.specs.Fitting.{are_fit}
use Rattle.tui_terminal.proofs.FitRows.{fit_sends}
use Rattle.tui_terminal.proofs.Texts.{Prints-text}
use Rattle.tui_terminal.proofs.rows.emit_mixed_changes.Goals as goal

pub emit_new_fit-requires : goal.emit_new_fit-requires
emit_new_fit-requires g c =
    let a = c.args in
    let on : c.are_fit.result ≡ true = search rules in
    let both = and_parts (are_fit a.target.output.widths a.old.now) (are_fit a.target.output.widths a.new.now) (sym c.are_fit.ensures ∙ on) in
    (c.requires.0, c.requires.1, c.requires.2, both.0, both.1)

pub returns-then-are_fit : goal.returns-then-are_fit
returns-then-are_fit g c =
    let a = c.args in
    let widths = a.target.output.widths in
    let on : c.are_fit.result ≡ true = search rules in
    let both = and_parts (are_fit widths a.old.now) (are_fit widths a.new.now) (sym c.are_fit.ensures ∙ on) in
    Prints-text (ap (λ (ps : List PlacedCell). flat_map encoding (send a.target.output a.target.y nothing_known ps)) (fit_sends widths a.target.left a.old.now a.new.now both.0 both.1)) c.emit_new_fit.ensures
