use Rattle.std.proofs.Common.{◌<◌, false, arith, length}
use Rattle.tui_clusters.proofs.RunColumns.{some_column}
use Rattle.tui_clusters.proofs.width.has_column.Goals as goal

pub returns-then-not-is_empty : goal.returns-then-not-is_empty
returns-then-not-is_empty c =
    let some : 0 < length c.split_run.result.0.now = grind (arith, c.is_empty.ensures) in
    rw c.if-not-is_empty.true (some_column false c.split_run.result.0.now _ _ c.split_run.ensures.clusters c.split_run.ensures.printable some)
