use Rattle.std.proofs.Common.{◌+◌, ◌<◌, ◌≤◌, not, [], ◌++◌, length, get_or, rules, sym, ap, ◌∙◌, arith}
use Rattle.std.proofs.lemmas.List.{get_or_default, get_or_read_under}
use Rattle.tui_cells.specs.Cell.{Look, blank}
use Rattle.tui_io.proofs.Printing.{Prints-none, Prints-then}
use Rattle.tui_terminal_laws.specs.declared.at.At.{At}
use Rattle.tui_terminal_laws.specs.declared.wanted.Wanted.TheVariants.{Changed}
use Rattle.tui_terminal_laws.specs.Sending.{at_after, nothing_known}
use Rattle.tui_terminal_laws.specs.Sent.{is_same}
use Rattle.tui_terminal.specs.Narrow.{is_narrow}
use Rattle.tui_terminal.specs.Sent.{at_reached, placed_if}
use Rattle.tui_terminal.proofs.AtReached.{reached_begin, within_begin, within_more}
use Rattle.tui_terminal.proofs.NarrowLooks.{narrow_steps, narrow_known_width}
use Rattle.tui_terminal.proofs.NarrowWalks.{new_here, narrow_begin, narrow_done, narrow_more, narrow_changes}
use Rattle.tui_terminal.proofs.RowTests.{tested_cell}
use Rattle.tui_terminal.proofs.Texts.{Prints-text}
use Rattle.tui_terminal.proofs.Walking.{at_append, at_none, send_more, send_none}
use Rattle.tui_terminal.proofs.narrow.emit_new_narrow.Goals as goal

pub columns-init : goal.columns-init
columns-init g c =
    let a = c.args in
    let none = c.none-reached.ensures in (
      [],
      Prints-text (send_none a.target.output a.target.y nothing_known) (Prints-none _ _),
      reached_begin a.target.left a.new.now c.none-reached.result none ∙ at_none a.target.output.widths nothing_known,
      narrow_begin a.target.output.widths Changed a.target.left a.old.now a.new.now,
      within_begin a.new.now c.none-reached.result none,
    )

pub emit_cell_if-reached-requires : goal.emit_cell_if-reached-requires
emit_cell_if-reached-requires g c =
    let a = c.args in
    let i = c.columns.column in
    let row = a.new.now in
    let n = get_or row i blank in
    let lt : i < length row = search (rules, arith) in
    let e = tested_cell (is_narrow a.target.output.widths) row i n lt (get_or_default row i blank n lt) c.requires.4 in
    let within = c.columns.invariant.4 in
    record {
      within = (c.requires.1, c.requires.2, omega (arith, lt), within.last, within.after);
      cell = (sym (narrow_steps a.target.output.widths n.symbol e), narrow_known_width a.target.output.widths n.symbol e);
    }

pub columns-preserved : goal.columns-preserved
columns-preserved g c =
    let a = c.args in
    let i = c.columns.column in
    let inv = c.columns.invariant in
    let r = c.columns.reached in
    let widths = a.target.output.widths in
    let row = a.new.now in
    let n = get_or row i blank in
    let o = c.index-old-column.result in
    let wanted = c.is_changed-wanted.result in
    let lt : i < length row = search (rules, arith) in
    let is = get_or_default row i blank n lt in
    let cell = get_or_read_under row i (length row) c.index-new-column.result blank c.index-new-column.is lt (omega arith) in
    let here = placed_if wanted (a.target.left + i) n in
    let same = new_here widths (a.target.left + i) o n wanted (c.is_changed-wanted.ensures ∙ ap (λ (k : Look). not (is_same o k)) cell) in (
      inv.0 ++ here,
      Prints-text (send_more a.target.output a.target.y nothing_known (at_reached a.target.left row r.last r.after) inv.0 here inv.2) (Prints-then inv.1 c.emit_cell_if-reached.ensures.emitted),
      c.emit_cell_if-reached.ensures.next ∙ (ap (λ (k : At). at_after widths k here) inv.2 ∙ sym (at_append widths nothing_known inv.0 here)),
      narrow_more widths Changed a.target.left i a.old.now row o n here inv.0 _ lt c.requires.0 c.index-old-column.is is same inv.3,
      within_more row wanted i 1 r c.emit_cell_if-reached.result inv.4 (omega (arith, lt)) c.emit_cell_if-reached.ensures.is,
    )

pub returns : goal.returns
returns g c =
    let a = c.args in
    let l = c.columns in
    let inv = l.invariant in
    let past : length a.new.now ≤ l.column = search (rules, arith) in
    let all = narrow_done a.target.output.widths Changed a.target.left l.column a.old.now a.new.now inv.0 _ past inv.3 in
    Prints-text (narrow_changes a.target.output a.target.y a.target.left a.old.now a.new.now inv.0 c.requires.3 c.requires.4 all) inv.1
