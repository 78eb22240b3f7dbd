use Rattle.std.proofs.Common.{rules}
use Rattle.tui_clusters.proofs.OneByte.{printable_ascii}
use Rattle.tui_clusters.proofs.Runs.{fewer_after}
use Rattle.tui_text.proofs.Runs.{end_written, kept_written, allocation_free_after, set_written}
use Rattle.tui_text.proofs.setting.set_run.Goals as goal

pub set_bytes-requires : goal.set_bytes-requires
set_bytes-requires c = printable_ascii c.next_run-run.result.now c.next_run-run.ensures.printable

pub returns-clause-rest : goal.returns-clause-rest
returns-clause-rest c = λ final q. set_written c.args.at.x c.args.at.y c.args.room _ c.args.style c.next_run-run.result.now _ _ _ _ final
    c.next_run-run.ensures.clusters c.next_run-run.ensures.printable (search rules) (search rules) c.set_bytes.ensures q

pub returns-clause-end : goal.returns-clause-end
returns-clause-end c = end_written c.args.at.x c.args.room _ c.next_run-run.result.now _ _
    c.next_run-run.ensures.clusters c.next_run-run.ensures.printable (search rules) (search rules)

pub returns-clause-kept : goal.returns-clause-kept
returns-clause-kept c = kept_written c.args.at.x c.args.at.y _ c.args.style c.next_run-run.result.now _ _ (search rules) c.set_bytes.ensures

pub returns-clause-allocation_free : goal.returns-clause-allocation_free
returns-clause-allocation_free c = allocation_free_after c.next_run-run.result.now _ _ c.next_run-run.ensures.clusters

pub returns-clause-fewer : goal.returns-clause-fewer
returns-clause-fewer c = fewer_after c.next_run-run.result.now _ _ c.next_run-run.ensures.clusters
