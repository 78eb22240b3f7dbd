use Rattle.std.proofs.Common.{◌+◌, ◌-◌, ◌<◌, ◌≤◌, [], ◌++◌, flat_map, length, rules, refl, sym, ap, ◌∙◌, arith, List}
use Rattle.tui_io.proofs.Printing.{Prints-none, Prints-then}
use Rattle.tui_text.specs.Visible.{PlacedCell}
use Rattle.tui_terminal_model.specs.Pieces.{shown, uncovered}
use Rattle.tui_terminal_model.specs.Encoding.{encoding}
use Rattle.tui_terminal_laws.specs.declared.at.At.{At}
use Rattle.tui_terminal_laws.specs.declared.wanted.Wanted.TheVariants.{Changed}
use Rattle.tui_terminal_laws.specs.Sending.{at_after, nothing_known, send}
use Rattle.tui_terminal.specs.Seeing.{cover_of, look_in, shown_in}
use Rattle.tui_terminal.specs.Sent.{placed_if}
use Rattle.tui_terminal.proofs.Texts.{Prints-text}
use Rattle.tui_terminal.proofs.Walking.{at_append, at_none, new_is, send_more, send_none, walk_begin, walk_end, walk_more}
use Rattle.tui_terminal.proofs.rows.emit_new.Goals as goal

pub columns-init : goal.columns-init
columns-init g c =
    let a = c.args in (
      [],
      Prints-text (send_none a.target.output a.target.y nothing_known) (Prints-none _ _),
      c.nothing_known-now.ensures ∙ at_none a.target.output.widths nothing_known,
      walk_begin a.target.output.widths Changed a.target.left _ _ uncovered a.old.now a.new.now c.none-was.ensures c.none-is.ensures,
    )

pub columns-preserved : goal.columns-preserved
columns-preserved g c =
    let a = c.args in
    let l = c.columns in
    let i = l.column in
    let inv = l.invariant in
    let news = a.new.now in
    let o = c.index-old-column.result in
    let n = c.index-new-column.result in
    let room = length news - i in
    let u = cover_of l.was in
    let v = cover_of l.is in
    let b = c.see-before.result in
    let s = c.see-seen.result in
    let here = placed_if c.is_new-wanted.result (a.target.left + i) (look_in s) in
    let same = new_is a.target.output.widths (a.target.left + i) (shown_in b) (shown a.target.output.widths u room o) (shown a.target.output.widths v room n) s.shows c.is_new-wanted.result (look_in s)
    c.is_new-wanted.ensures c.see-before.ensures.shown c.see-seen.ensures.shown in
    let lt : i < length news = search (rules, arith) in (
      inv.0 ++ here,
      Prints-text (send_more a.target.output a.target.y nothing_known l.now inv.0 here inv.2) (Prints-then inv.1 c.emit_if-now.ensures.emitted),
      c.emit_if-now.ensures.next ∙ (ap (λ (k : At). at_after a.target.output.widths k here) inv.2 ∙ sym (at_append a.target.output.widths nothing_known inv.0 here)),
      walk_more a.target.output.widths Changed a.target.left i room u v (cover_of b.under) (cover_of s.under) a.old.now news o n here inv.0 _ lt c.requires.0
          c.index-old-column.is c.index-new-column.is refl c.see-before.ensures.next c.see-seen.ensures.next same inv.3,
    )

pub returns : goal.returns
returns g c =
    let a = c.args in
    let l = c.columns in
    let inv = l.invariant in
    let past : length a.new.now ≤ l.column = search (rules, arith) in
    let all = walk_end a.target.output.widths Changed a.target.left l.column (cover_of l.was) (cover_of l.is) a.old.now a.new.now inv.0 _ past inv.3 in
    Prints-text (ap (λ (ps : List PlacedCell). flat_map encoding (send a.target.output a.target.y nothing_known ps)) all) inv.1
