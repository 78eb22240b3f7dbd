use Rattle.std.proofs.Common.{◌≡◌, [], arith, length}
use Rattle.tui_text.proofs.Elements.{if_ok}
use Rattle.tui_text.proofs.PaintedRuns.{painted_first}
use Rattle.tui_text.proofs.RowStrokes.{shown_then}
use Rattle.tui_clusters.proofs.Runs.{run_alone}
use Rattle.tui_text.proofs.Runs.{allocation_free_after}
use Rattle.tui_text.proofs.row.paint_clusters.Goals as goal

pub returns-then-is_empty-clause-shown : goal.returns-then-is_empty-clause-shown
returns-then-is_empty-clause-shown c =
    let run = c.split_run.result.0.now in
    let rest = c.split_run.result.1.now in
    let none : length c.split_run.result.1.now ≡ 0 = grind (arith, c.is_empty.ensures) in
    painted_first _ _ _ _ c.args.style run [] _ _ _ (run_alone run rest _ c.split_run.ensures.clusters none) c.paint_bytes.ensures.shown

pub returns-clause-shown : goal.returns-clause-shown
returns-clause-shown c =
    let run = painted_first _ _ _ _ c.args.style c.split_run.result.0.now _ _ _ _ c.split_run.ensures.clusters c.paint_bytes.ensures.shown in
    if_ok c.paint_others.result (λ next p more. shown_then (run more) (p more)) c.paint_others.ensures.shown

pub returns-clause-allocation_free : goal.returns-clause-allocation_free
returns-clause-allocation_free c = λ all. c.paint_others.ensures.allocation_free (allocation_free_after c.split_run.result.0.now _ _ c.split_run.ensures.clusters all)
