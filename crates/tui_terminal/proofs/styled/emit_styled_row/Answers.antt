use Rattle.std.proofs.Common.{[], ◌++◌, sym, subst, append_assoc, arith}
use Rattle.std.proofs.lemmas.Grind.{flat_map-append}
use Rattle.tui_io.proofs.Printing.{Prints-none, Prints-then}
use Rattle.tui_terminal_model.specs.Pens.{pen_of}
use Rattle.tui_terminal_model.specs.Pieces.{Cover, pieces, uncovered}
use Rattle.tui_terminal_model.specs.Encoding.{encoding}
use Rattle.tui_terminal_model.specs.Styled.{Becomes, StyledRow}
use Rattle.tui_terminal_model.specs.Terminal.{Pen, rest}
use Rattle.tui_terminal.specs.Seeing.{cover_of}
use Rattle.tui_terminal.proofs.Styling.{line_text, next_cell, rest_pen, row_ended, row_from}
use Rattle.tui_terminal.proofs.Texts.{Prints-text}
use Rattle.tui_terminal.proofs.styled.emit_styled_row.Goals as goal

pub columns-init : goal.columns-init
columns-init g c =
    let row = c.args.row.now in
    let depth = c.args.depth in
    let pen = pen_of depth c.unstyled-pen.result in (
      [],
      λ more h.
          subst (λ (p : Pen). StyledRow depth p (pieces 0 (row_from row uncovered 0)) more) (rest_pen depth c.unstyled-pen.result c.unstyled-pen.ensures)
          (subst (λ (k : Cover). StyledRow depth pen (pieces 0 (row_from row k 0)) more) c.none-under.ensures h),
      Prints-none _ _,
    )

pub columns-preserved : goal.columns-preserved
columns-preserved g c =
    let row = c.args.row.now in
    let depth = c.args.depth in
    let l = c.columns in
    let i = l.column in
    let next = c.emit_seen-pen.result in
    let inv = l.invariant in
    let emitted = c.emit_seen-pen.ensures in
    let cell = rw c.see-seen.ensures.shown at emitted.1 in (
      inv.0 ++ emitted.0,
      λ more h.
          subst (StyledRow depth rest (pieces 0 (row_from row uncovered 0))) (sym (append_assoc inv.0 emitted.0 more))
          (inv.1 (emitted.0 ++ more) (next_cell depth (pen_of depth l.pen) (pen_of depth next) row (cover_of l.under) (cover_of c.see-seen.result.under) i
          c.index-row-column.result emitted.0 more c.columns-test.true c.index-row-column.is c.see-seen.ensures.next cell h)),
      Prints-text (sym (flat_map-append encoding inv.0 emitted.0)) (Prints-then inv.2 emitted.2),
    )

pub returns : goal.returns
returns g c =
    let row = c.args.row.now in
    let depth = c.args.depth in
    let pen = pen_of depth c.columns.pen in
    let inv = c.columns.invariant in
    let change = c.emit_change.ensures in
    let becomes = subst (λ (p : Pen). Becomes pen p change.0) (rest_pen depth c.unstyled.result c.unstyled.ensures) change.1 in (
      inv.0 ++ change.0,
      inv.1 change.0 (row_ended depth pen row (cover_of c.columns.under) c.columns.column change.0 (omega (arith, c.columns-test.false)) becomes),
      Prints-text (line_text inv.0 change.0) (Prints-then inv.2 (Prints-then change.2 c.push.ensures)),
    )
