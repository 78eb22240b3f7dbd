use Rattle.std.proofs.Common.{All, ap, arith, flat_map, map, refl}
use Rattle.tui_cells.specs.Cell.{IsAllocationFree}
use Rattle.tui_cells.specs.Style.{no_style}
use Rattle.tui_cells.proofs.Painting.{KeptOutside-then}
use Rattle.tui_clusters.specs.Shown.{clusters}
use Rattle.tui_text.specs.Graphemes.{span_graphemes}
use Rattle.tui_text.specs.Span.{span_data}
use Rattle.tui_text.proofs.Elements.{none_from, seen_at, seen_from}
use Rattle.tui_text.proofs.PaintedRuns.{painted_span}
use Rattle.tui_text.proofs.RowStrokes.{shown_ended, shown_none, shown_then}
use Rattle.tui_text.proofs.row.paint_glyphs.Goals as goal

pub returns-then-place-end-clause-ok : goal.returns-then-place-end-clause-ok
returns-then-place-end-clause-ok c =
    let far = c.if-place-end.true in
    c.loop-span.invariant.shown.done _ (shown_ended _ _ _ _ _ (omega (arith, far)))

pub returns-in_err-place-clause-allocation_free : goal.returns-in_err-place-clause-allocation_free
returns-in_err-place-clause-allocation_free c all =
    let broken =
    c.in_err-place.ensures.allocation_free
    (seen_at span_data (λ s. All IsAllocationFree (clusters s.content)) c.args.spans.now c.loop-span.span-index _ _ (omega arith) refl all) in
    cc

pub loop-span-preserved : goal.loop-span-preserved
loop-span-preserved c = record {
  shown = shown_then c.loop-span.invariant.shown
      (painted_span _ _ _ _ _ _ _ _ _ (seen_from span_data c.args.spans.now c.loop-span.span-index _ _ (omega arith) refl) c.in_ok-place.ensures.shown);
  kept = KeptOutside-then c.loop-span.invariant.kept c.in_ok-place.ensures.kept;
}

pub returns-clause-ok : goal.returns-clause-ok
returns-clause-ok c = c.loop-span.invariant.shown.done _
    (shown_none _ _ _ _ _ (ap (λ ys. flat_map (span_graphemes no_style) (map span_data ys)) (none_from c.args.spans.now c.loop-span.span-index (omega arith))))
