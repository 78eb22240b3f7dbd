use Rattle.std.proofs.Common.{◌∙◌, ap, arith, map, sym}
use Rattle.tui_cells.proofs.Painting.{KeptOutside-then, KeptOutside-weaker}
use Rattle.tui_text.specs.Line.{line_data}
use Rattle.tui_text.specs.Setting.{AreAllocationFree}
use Rattle.tui_text.proofs.Elements.{none_from, seen_at, seen_from}
use Rattle.tui_text.proofs.RowStays.{below_out}
use Rattle.tui_text.proofs.TextRows.{lines_done, lines_ended, lines_more}
use Rattle.tui_text.proofs.painting.paint_lines.Goals as goal

pub returns-then-is_empty-clause-ok : goal.returns-then-is_empty-clause-ok
returns-then-is_empty-clause-ok c = c.loop-line.invariant.rest _ (lines_ended _ _ _ _ (sym c.is_empty.ensures ∙ c.if-is_empty.true))

pub returns-in_err-paint_row-clause-allocation_free : goal.returns-in_err-paint_row-clause-allocation_free
returns-in_err-paint_row-clause-allocation_free c all =
    let broken =
    c.in_err-paint_row.ensures.allocation_free (seen_at line_data (λ l. AreAllocationFree l.spans) c.args.lines.now c.loop-line.line-index _ _ (omega arith) c.line-item.is all) in
    cc

pub loop-line-preserved : goal.loop-line-preserved
loop-line-preserved c = record {
  rest = λ final q. c.loop-line.invariant.rest final
      (lines_more _ _ _ _ _ _ _ _ final (seen_from line_data c.args.lines.now c.loop-line.line-index _ _ (omega arith) c.line-item.is) c.below-rest.ensures
      (rw c.alignment_in.ensures at c.in_ok-paint_row.ensures.ok) q);
  within = λ x y out. rw c.below-rest.ensures (below_out c.loop-line.rest x y (c.loop-line.invariant.within x y out));
  kept = KeptOutside-then c.loop-line.invariant.kept (KeptOutside-weaker c.loop-line.invariant.within c.in_ok-paint_row.ensures.kept);
}

pub returns-clause-ok : goal.returns-clause-ok
returns-clause-ok c = c.loop-line.invariant.rest _ (lines_done _ _ _ _ (ap (map line_data) (none_from c.args.lines.now c.loop-line.line-index (omega arith))))
