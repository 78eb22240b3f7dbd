use Rattle.std.proofs.Common.{◌+◌, ◌-◌, ◌<◌, ◌≤◌, [], ◌++◌, flat_map, length, rules, refl, sym, ap, ◌∙◌, arith, List}
use Rattle.tui_io.proofs.Printing.{Prints-none, Prints-then}
use Rattle.tui_text.specs.Visible.{PlacedCell}
use Rattle.tui_terminal_model.specs.Pieces.{shown, uncovered}
use Rattle.tui_terminal_model.specs.Encoding.{encoding}
use Rattle.tui_terminal_laws.specs.declared.at.At.{At}
use Rattle.tui_terminal_laws.specs.Sending.{at_after, send}
use Rattle.tui_terminal.specs.Seeing.{cover_of, look_in}
use Rattle.tui_terminal.specs.Sent.{pass_of, placed_if}
use Rattle.tui_terminal.proofs.Texts.{Prints-text}
use Rattle.tui_terminal.proofs.Walking.{at_append, at_none, pass_is, send_more, send_none, walk_begin, walk_end, walk_more}
use Rattle.tui_terminal.proofs.rows.emit_pass.Goals as goal

pub columns-init : goal.columns-init
columns-init g c =
    let a = c.args in (
      [],
      Prints-text (send_none a.target.output a.target.y a.pass.at) (Prints-none _ _),
      at_none a.target.output.widths a.pass.at,
      walk_begin a.target.output.widths (pass_of a.pass.uncertain) a.target.left _ _ uncovered a.row.now a.row.now c.none-under.ensures c.none-under.ensures,
    )

pub columns-preserved : goal.columns-preserved
columns-preserved g c =
    let a = c.args in
    let l = c.columns in
    let i = l.column in
    let inv = l.invariant in
    let row = a.row.now in
    let cell = c.index-row-column.result in
    let room = length row - i in
    let u = cover_of l.under in
    let s = c.see-seen.result in
    let next = c.see-seen.ensures.next in
    let here = placed_if c.is_in_pass-wanted.result (a.target.left + i) (look_in s) in
    let same = pass_is a.target.output.widths (a.target.left + i) (shown a.target.output.widths u room cell) (shown a.target.output.widths u room cell) a.pass.uncertain s.shows c.is_in_pass-wanted.result s.known_width (look_in s)
    c.is_in_pass-wanted.ensures c.see-seen.ensures.known_width c.see-seen.ensures.shown in
    let lt : i < length row = search (rules, arith) in (
      inv.0 ++ here,
      Prints-text (send_more a.target.output a.target.y a.pass.at l.now inv.0 here inv.2) (Prints-then inv.1 c.emit_if-now.ensures.emitted),
      c.emit_if-now.ensures.next ∙ (ap (λ (k : At). at_after a.target.output.widths k here) inv.2 ∙ sym (at_append a.target.output.widths a.pass.at inv.0 here)),
      walk_more a.target.output.widths (pass_of a.pass.uncertain) a.target.left i room u u (cover_of s.under) (cover_of s.under) row row cell cell here inv.0 _ lt refl
          c.index-row-column.is c.index-row-column.is refl next next same inv.3,
    )

pub returns-clause-next : goal.returns-clause-next
returns-clause-next g c =
    let a = c.args in
    let l = c.columns in
    let inv = l.invariant in
    let past : length a.row.now ≤ l.column = search (rules, arith) in
    let u = cover_of l.under in
    let all = walk_end a.target.output.widths (pass_of a.pass.uncertain) a.target.left l.column u u a.row.now a.row.now inv.0 _ past inv.3 in
    inv.2 ∙ ap (at_after a.target.output.widths a.pass.at) all

pub returns-clause-emitted : goal.returns-clause-emitted
returns-clause-emitted g c =
    let a = c.args in
    let l = c.columns in
    let inv = l.invariant in
    let past : length a.row.now ≤ l.column = search (rules, arith) in
    let u = cover_of l.under in
    let all = walk_end a.target.output.widths (pass_of a.pass.uncertain) a.target.left l.column u u a.row.now a.row.now inv.0 _ past inv.3 in
    Prints-text (ap (λ (ps : List PlacedCell). flat_map encoding (send a.target.output a.target.y a.pass.at ps)) all) inv.1
