use Rattle.tui_text.proofs.Runs.{allocation_free_after}
use Rattle.tui_text.proofs.row.paint_run.Goals as goal

pub returns-clause-allocation_free : goal.returns-clause-allocation_free
returns-clause-allocation_free c = allocation_free_after c.next_run-run.result.now _ _ c.next_run-run.ensures.clusters
