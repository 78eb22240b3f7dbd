use Rattle.std.proofs.Common.{◌≡◌, ◌+◌, sum_by}
use Rattle.tui_clusters.specs.Width.{columns_of, saturated}
use Rattle.tui_clusters.specs.Clusters.{clusters_left}
use Rattle.tui_clusters.specs.Shown.{clusters}
use Rattle.tui_clusters.proofs.width.clusters_width.Given as goal

abbrev pub invariant-loop-cluster : goal.invariant-loop-cluster
invariant-loop-cluster l =
    (saturated l.width ≡ l.width)
    × (saturated (l.width + sum_by (columns_of l.cjk) (clusters_left l.cluster-iterator)) ≡ saturated (sum_by (columns_of l.cjk) (clusters l.text)))
