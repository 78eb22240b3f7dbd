use Rattle.std.proofs.Common.{ap₂, map, sym, ◌++◌, ◌∙◌}
use Rattle.tui_clusters.specs.Shown.{clusters, one_byte}
use Rattle.tui_clusters.proofs.Runs.{run_boundary, run_clusters}
use Rattle.tui_clusters.proofs.clusters.split_run.Goals as goal

pub split_at-requires : goal.split_at-requires
split_at-requires c = run_boundary c.args.text.now c.run_len.result c.utf8.text c.run_len.ensures.run

pub returns-clause-clusters : goal.returns-clause-clusters
returns-clause-clusters c =
    run_clusters c.run_len.result c.args.text.now c.utf8.text c.run_len.ensures.run
    ∙ ap₂ (λ run rest. map one_byte run ++ clusters rest) (sym c.split_at.ensures.front ∙ sym c.as_bytes.ensures.value) (sym c.split_at.ensures.back)
