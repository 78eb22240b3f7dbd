use Rattle.std.proofs.Common.{All, ap, arith, map, refl, sym, ◌∙◌}
use Rattle.tui_cells.specs.Cell.{IsAllocationFree}
use Rattle.tui_cells.proofs.Painting.{KeptOutside-then}
use Rattle.tui_clusters.specs.Shown.{clusters}
use Rattle.tui_text.specs.Setting.{in_line}
use Rattle.tui_text.specs.Span.{span_data}
use Rattle.tui_text.proofs.Elements.{none_from, seen_at, seen_twice_from}
use Rattle.tui_text.proofs.Settings.{kept_span, spans_done, spans_end_done, spans_end_more, spans_more}
use Rattle.tui_text.proofs.setting.set_spans.Goals as goal

pub returns-in_err-next-clause-allocation_free : goal.returns-in_err-next-clause-allocation_free
returns-in_err-next-clause-allocation_free c all =
    let broken =
    c.in_err-next.ensures.allocation_free (seen_at span_data (λ s. All IsAllocationFree (clusters s.content)) c.args.spans.now c.loop-span.span-index _ _ (omega arith) refl all) in
    cc

pub returns-in_err-next-clause-kept : goal.returns-in_err-next-clause-kept
returns-in_err-next-clause-kept c =
    let columns = c.loop-span.invariant.columns in
    let spans = seen_twice_from (in_line c.args.style) span_data c.args.spans.now c.loop-span.span-index _ _ (omega arith) refl in
    KeptOutside-then c.loop-span.invariant.kept
    (kept_span c.args.at.x _ _ _ c.args.at.y _ _ _ _ _ (omega (arith, columns, c.loop-span.invariant.left)) spans c.loop-span.invariant.end c.in_err-next.ensures.kept)

pub loop-span-preserved : goal.loop-span-preserved
loop-span-preserved c =
    let end = c.in_ok-next.ensures.end in
    let within = c.in_ok-next.ensures.within in
    let columns = c.loop-span.invariant.columns in
    let spans = seen_twice_from (in_line c.args.style) span_data c.args.spans.now c.loop-span.span-index _ _ (omega arith) refl in
    record {
      columns = omega (arith, columns, within.0, within.1);
      left = omega (arith, c.loop-span.invariant.left);
      end = spans_end_more _ _ _ _ _ _ _ spans end refl ∙ c.loop-span.invariant.end;
      rest = λ final q. c.loop-span.invariant.rest final (spans_more _ _ _ _ _ _ _ _ _ _ final spans end refl (rw c.patch.ensures at c.in_ok-next.ensures.ok) q);
      kept = KeptOutside-then c.loop-span.invariant.kept
          (kept_span c.args.at.x _ _ _ c.args.at.y _ _ _ _ _ (omega (arith, columns, c.loop-span.invariant.left)) spans c.loop-span.invariant.end
          c.in_ok-next.ensures.kept);
    }

pub returns-clause-ok : goal.returns-clause-ok
returns-clause-ok c = c.loop-span.invariant.rest _ (spans_done _ _ _ _ _ (ap (λ ys. map (in_line c.args.style) (map span_data ys)) (none_from c.args.spans.now c.loop-span.span-index (omega arith))))

pub returns-clause-end : goal.returns-clause-end
returns-clause-end c = sym (spans_end_done _ _ _ (ap (λ ys. map (in_line c.args.style) (map span_data ys))
    (none_from c.args.spans.now c.loop-span.span-index (omega arith)))) ∙ c.loop-span.invariant.end
