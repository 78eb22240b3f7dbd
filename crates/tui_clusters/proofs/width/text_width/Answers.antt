use Rattle.std.proofs.Common.{◌≡◌, ◌<◌, ◌^◌, ◌∙◌, [], arith, length, rules}
use Rattle.tui_clusters.proofs.RunColumns.{run_columns, run_width}
use Rattle.tui_clusters.proofs.Runs.{run_alone}
use Rattle.tui_clusters.proofs.width.text_width.Goals as goal

pub returns-then-is_empty : goal.returns-then-is_empty
returns-then-is_empty c =
    let run = c.split_run.result.0.now in
    let rest = c.split_run.result.1.now in
    let none : length c.split_run.result.1.now ≡ 0 = grind (arith, c.is_empty.ensures) in
    let is = run_columns c.args.cjk run [] _ (run_alone run rest _ c.split_run.ensures.clusters none) c.split_run.ensures.printable in
    let fits : length c.split_run.result.0.now < 2 ^ 64 = search (rules, arith) in
    omega (arith, is, fits)

pub returns : goal.returns
returns c =
    rw c.clusters_width.ensures at c.saturating_add.ensures
    ∙ run_width c.args.cjk c.split_run.result.0.now _ _ c.split_run.ensures.clusters c.split_run.ensures.printable
