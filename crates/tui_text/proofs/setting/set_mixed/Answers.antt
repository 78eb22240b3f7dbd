use Rattle.std.proofs.Common.{All, sym, subst, ◌∙◌, arith}
use Rattle.std.proofs.lemmas.List.Elements.{All-tail}
use Rattle.tui_cells.specs.Cell.{IsAllocationFree}
use Rattle.tui_cells.proofs.Painting.{KeptOutside-then}
use Rattle.tui_text.proofs.Settings.{end_more, end_none, end_stop, kept_first, kept_run, set_more, set_none, set_stop}
use Rattle.tui_text.proofs.setting.set_mixed.Goals as goal

pub returns-in_default-clause-ok : goal.returns-in_default-clause-ok
returns-in_default-clause-ok c =
    let ended = rw c.in_default.is at c.next.ensures.steps in
    c.clusters.invariant.rest _ (set_none _ _ _ _ _ _ ended.0)

pub returns-in_default-clause-end : goal.returns-in_default-clause-end
returns-in_default-clause-end c =
    let ended = rw c.in_default.is at c.next.ensures.steps in
    sym (end_none _ _ _ ended.0) ∙ c.clusters.invariant.end

pub returns-then-width-left-clause-ok : goal.returns-then-width-left-clause-ok
returns-then-width-left-clause-ok c =
    c.clusters.invariant.rest _ (set_stop _ _ _ _ _ _ _ _ c.in-Some.ensures.steps (rw c.cell_width-width.ensures at c.if-width-left.true))

pub returns-then-width-left-clause-end : goal.returns-then-width-left-clause-end
returns-then-width-left-clause-end c =
    sym (end_stop _ _ _ _ _ c.in-Some.ensures.steps (rw c.cell_width-width.ensures at c.if-width-left.true)) ∙ c.clusters.invariant.end

pub returns-in_err-write_cluster-clause-kept : goal.returns-in_err-write_cluster-clause-kept
returns-in_err-write_cluster-clause-kept c =
    let columns = c.clusters.invariant.columns in
    let left = c.clusters.invariant.left in
    KeptOutside-then c.clusters.invariant.kept
    (kept_first c.args.at.x _ _ _ _ c.args.at.y _ _ _ _ _ (omega (arith, columns, left)) c.in-Some.ensures.steps c.cell_width-width.ensures c.if-width-left.false
    c.clusters.invariant.end c.in_err-write_cluster.ensures.kept)

pub clusters-preserved : goal.clusters-preserved
clusters-preserved c =
    let wide = c.cell_width-width.ensures in
    let room = c.if-width-left.false in
    let run = c.set_run-run.ensures.within in
    let columns = c.clusters.invariant.columns in
    let left = c.clusters.invariant.left in
    let steps = c.in-Some.ensures.steps in
    let end = c.set_run-run.ensures.end
    ∙ (end_more _ _ _ _ _ _ _ steps (omega (arith, wide, room)) (omega (arith, wide)) (omega (arith, wide)) ∙ c.clusters.invariant.end) in
    record {
      columns = omega (arith, columns, room, run);
      left = omega (arith, left);
      end = end;
      rest = λ final q. c.clusters.invariant.rest final
          (set_more _ _ _ _ _ _ _ _ _ _ _ final steps (omega (arith, wide, room)) (omega (arith, wide)) (omega (arith, wide)) c.in_ok-write_cluster.ensures.ok
          (c.set_run-run.ensures.rest final q));
      allocation_free = λ all. c.set_run-run.ensures.allocation_free (All-tail IsAllocationFree _ _ (subst (λ cs. All IsAllocationFree cs) steps (c.clusters.invariant.allocation_free all)));
      kept = KeptOutside-then (KeptOutside-then c.clusters.invariant.kept
          (kept_first c.args.at.x _ _ _ _ c.args.at.y _ _ _ _ _ (omega (arith, columns, left)) steps wide room c.clusters.invariant.end c.in_ok-write_cluster.ensures.kept))
          (kept_run c.args.at.x _ _ _ _ c.args.at.y _ _ _ (omega (arith, columns, left, room)) end c.set_run-run.ensures.kept);
    }
