use Rattle.std.proofs.Common.{◌≡◌, ◌+◌, ◌-◌, ◌<◌, ◌≤◌, ◌==◌, [], ◌++◌, cond, not, ◌&&◌, flat_map, get_or, length, rules, refl, sym, ap, ◌∙◌, arith, List}
use Rattle.std.specs.Prelude.{None}
use Rattle.std.proofs.lemmas.List.{get_or_default, get_or_read_under}
use Rattle.tui_cells.specs.Cell.{Look, blank}
use Rattle.tui_io.proofs.Printing.{Prints-none, Prints-then}
use Rattle.tui_text.proofs.ShownCells.{some_step}
use Rattle.tui_text.specs.Visible.{PlacedCell, step_of}
use Rattle.tui_terminal_model.specs.Pieces.{uncovered}
use Rattle.tui_terminal_model.specs.Encoding.{encoding}
use Rattle.tui_terminal_laws.specs.declared.at.At.{At}
use Rattle.tui_terminal_laws.specs.declared.wanted.Wanted.TheVariants.{Changed}
use Rattle.tui_terminal_laws.specs.Sending.{at_after, nothing_known, send}
use Rattle.tui_terminal_laws.specs.Sent.{is_same}
use Rattle.tui_terminal_laws.proofs.Seen.{under}
use Rattle.tui_terminal.specs.Fitting.{is_fit}
use Rattle.tui_terminal.specs.Sent.{at_reached, placed_if}
use Rattle.tui_terminal.proofs.AtReached.{reached_begin, within_begin, within_more}
use Rattle.tui_terminal.proofs.FitRows.{fit_cell, fit_here, fit_next, fit_room, fit_known_width}
use Rattle.tui_terminal.proofs.Texts.{Prints-text}
use Rattle.tui_terminal.proofs.Walking.{at_append, at_none, send_more, send_none, walk_begin, walk_end, walk_more}
use Rattle.tui_terminal.proofs.fitting.emit_new_fit.Goals as goal

pub columns-init : goal.columns-init
columns-init g c =
    let a = c.args in
    let none = c.none-reached.ensures in (
      [],
      Prints-text (send_none a.target.output a.target.y nothing_known) (Prints-none _ _),
      reached_begin a.target.left a.new.now c.none-reached.result none ∙ at_none a.target.output.widths nothing_known,
      walk_begin a.target.output.widths Changed a.target.left (under 0 None) (under 0 None) uncovered a.old.now a.new.now refl refl,
      within_begin a.new.now c.none-reached.result none,
    )

pub emit_cell_if-reached-requires : goal.emit_cell_if-reached-requires
emit_cell_if-reached-requires g c =
    let a = c.args in
    let widths = a.target.output.widths in
    let i = c.columns.column in
    let row = a.new.now in
    let n = get_or row i blank in
    let room = length row - i in
    let lt : i < length row = search (rules, arith) in
    let fit = fit_cell widths row i n lt (get_or_default row i blank n lt) c.requires.4 in
    let cell = get_or_read_under row i (length row) c.index-new-column.result blank c.index-new-column.is lt (omega arith) in
    let step = c.symbol_columns-columns.ensures ∙ ap step_of (c.symbol.ensures.is ∙ ap (λ (k : Look). k.symbol) cell) in
    let within = c.columns.invariant.4 in
    record {
      within = (c.requires.1, c.requires.2, omega (arith, lt, step, fit_room widths room n fit), within.last, within.after);
      cell = (step, fit_known_width widths room n fit);
    }

pub following-was-requires : goal.following-was-requires
following-was-requires g c = omega (arith, c.symbol_columns.ensures, some_step c.symbol-in-columns.result.now)

pub following-is-requires : goal.following-is-requires
following-is-requires g c = omega (arith, c.symbol_columns-columns.ensures, some_step c.symbol.result.now)

pub columns-preserved : goal.columns-preserved
columns-preserved g c =
    let a = c.args in
    let widths = a.target.output.widths in
    let l = c.columns in
    let i = l.column in
    let inv = l.invariant in
    let olds = a.old.now in
    let news = a.new.now in
    let o = c.index-old-column.result in
    let r = l.reached in
    let n = get_or news i blank in
    let room = length news - i in
    let room_old : length olds - i ≡ room = omega (arith, c.requires.0) in
    let lt : i < length news = search (rules, arith) in
    let fit_old = ap (λ k. is_fit widths k o) (sym room_old) ∙ fit_cell widths olds i o (omega (arith, c.requires.0, lt)) c.index-old-column.is c.requires.3 in
    let is = get_or_default news i blank n lt in
    let cell = get_or_read_under news i (length news) c.index-new-column.result blank c.index-new-column.is lt (omega arith) in
    let fit = fit_cell widths news i n lt is c.requires.4 in
    let room_is = fit_room widths room n fit in
    let step_old = c.symbol_columns.ensures ∙ ap step_of c.symbol-in-columns.ensures.is in
    let step = c.symbol_columns-columns.ensures ∙ ap step_of (c.symbol.ensures.is ∙ ap (λ (k : Look). k.symbol) cell) in
    let next_old = fit_next widths room l.was c.following-was.result o fit_old (c.following-was.ensures ∙ ap (λ k. cond (l.was == 0) (k - 1) (l.was - 1)) step_old) in
    let next = fit_next widths room l.is c.following-is.result n fit (c.following-is.ensures ∙ ap (λ k. cond (l.is == 0) (k - 1) (l.is - 1)) step) in
    let wanted = c.is_new-wanted.result in
    let here = placed_if wanted (a.target.left + i) n in
    let same = fit_here widths (a.target.left + i) room l.was l.is o n wanted fit_old fit (c.is_new-wanted.ensures ∙ ap (λ (k : Look). (l.is == 0) && not ((l.was == 0) && is_same o k)) cell) in (
      inv.0 ++ here,
      Prints-text (send_more a.target.output a.target.y nothing_known (at_reached a.target.left news r.last r.after) inv.0 here inv.2) (Prints-then inv.1 c.emit_cell_if-reached.ensures.emitted),
      c.emit_cell_if-reached.ensures.next ∙ (ap (λ (k : At). at_after widths k here) inv.2 ∙ sym (at_append widths nothing_known inv.0 here)),
      walk_more widths Changed a.target.left i room (under l.was None) (under l.is None) (under c.following-was.result None) (under c.following-is.result None) olds news o n here inv.0 _ lt c.requires.0
          c.index-old-column.is is refl next_old next same inv.3,
      within_more news wanted i c.symbol_columns-columns.result r c.emit_cell_if-reached.result inv.4 (omega (arith, lt, step, room_is)) c.emit_cell_if-reached.ensures.is,
    )

pub returns : goal.returns
returns g c =
    let a = c.args in
    let l = c.columns in
    let inv = l.invariant in
    let past : length a.new.now ≤ l.column = search (rules, arith) in
    let all = walk_end a.target.output.widths Changed a.target.left l.column (under l.was None) (under l.is None) a.old.now a.new.now inv.0 _ past inv.3 in
    Prints-text (ap (λ (ps : List PlacedCell). flat_map encoding (send a.target.output a.target.y nothing_known ps)) all) inv.1
