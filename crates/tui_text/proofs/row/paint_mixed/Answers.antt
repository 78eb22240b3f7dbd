use Rattle.std.proofs.Common.{All, arith, subst}
use Rattle.std.proofs.lemmas.List.Elements.{All-tail}
use Rattle.tui_cells.specs.Cell.{IsAllocationFree}
use Rattle.tui_cells.proofs.Painting.{KeptOutside-then}
use Rattle.tui_text.proofs.PaintedRuns.{painted_next}
use Rattle.tui_text.proofs.RowStrokes.{shown_then, shown_whole}
use Rattle.tui_text.proofs.row.paint_mixed.Goals as goal

pub returns-then-place-end-clause-shown : goal.returns-then-place-end-clause-shown
returns-then-place-end-clause-shown c = λ more.
    let far = c.if-place-end.true in
    shown_then (c.clusters.invariant.shown more) (shown_whole _ _ _ _ _ _ (omega (arith, far)))

pub clusters-preserved : goal.clusters-preserved
clusters-preserved c =
    let steps = c.in-Some.ensures.steps in
    record {
      shown = λ more. shown_then
          (shown_then (c.clusters.invariant.shown more) (painted_next _ _ _ _ c.args.style _ _ _ _ _ steps c.in_ok-next.ensures.shown more))
          (c.paint_run-place.ensures.shown more);
      allocation_free = λ all. c.paint_run-place.ensures.allocation_free (All-tail IsAllocationFree _ _ (subst (λ cs. All IsAllocationFree cs) steps (c.clusters.invariant.allocation_free all)));
      kept = KeptOutside-then (KeptOutside-then c.clusters.invariant.kept c.in_ok-next.ensures.kept) c.paint_run-place.ensures.kept;
    }
