use Rattle.std.proofs.Common.{◌≡◌, List, min, take, rules, true, sym, ap, ◌∙◌, flat_map, arith}
use Rattle.std.specs.List.{list_all}
use Rattle.std.proofs.lemmas.Bool.{and_parts}
use Rattle.std.proofs.lemmas.List.{length-take}
use Rattle.tui_text.specs.Visible.{PlacedCell}
use Rattle.tui_terminal_model.specs.Encoding.{encoding}
use Rattle.tui_terminal_laws.specs.Sending.{nothing_known, send}
use Rattle.tui_terminal.specs.Narrow.{is_narrow}
use Rattle.tui_terminal.proofs.EqualEnds.{front_changes}
use Rattle.tui_terminal.proofs.Texts.{Prints-text}
use Rattle.tui_terminal.proofs.rows.emit_changes.Goals as goal

pub emit_new_narrow-requires : goal.emit_new_narrow-requires
emit_new_narrow-requires g c =
    let a = c.args in
    let end = c.changed_end-end.result in
    let on : c.are_narrow.result ≡ true = search rules in
    let both = and_parts (list_all (λ k. is_narrow a.target.output.widths k.symbol) (take end a.old.now)) (list_all (λ k. is_narrow a.target.output.widths k.symbol) (take end a.new.now)) (sym c.are_narrow.ensures ∙ on) in
    let before = length-take end a.old.now in
    let after = length-take end a.new.now in
    let len = c.requires.0 in
    let fits = c.requires.1 in
    (before ∙ (ap (min end) len ∙ sym after), omega (arith, after, fits), c.requires.2, both.0, both.1)

pub returns-then-are_narrow : goal.returns-then-are_narrow
returns-then-are_narrow g c =
    let a = c.args in
    let widths = a.target.output.widths in
    let end = c.changed_end-end.result in
    let on : c.are_narrow.result ≡ true = search rules in
    let both = and_parts (list_all (λ k. is_narrow widths k.symbol) (take end a.old.now)) (list_all (λ k. is_narrow widths k.symbol) (take end a.new.now)) (sym c.are_narrow.ensures ∙ on) in
    let same = front_changes widths a.target.left end a.old.now a.new.now c.requires.0 c.changed_end-end.ensures.1 both.0 both.1 in
    Prints-text (ap (λ (ps : List PlacedCell). flat_map encoding (send a.target.output a.target.y nothing_known ps)) same) c.emit_new_narrow.ensures
