use Rattle.std.proofs.Common.{◌≡◌, false, sum_by}
use Rattle.tui_clusters.specs.Width.{columns_of}
use Rattle.tui_clusters.specs.Clusters.{clusters_left}
use Rattle.tui_clusters.specs.Shown.{clusters}
use Rattle.tui_clusters.proofs.width.has_wide_cluster.Given as goal

-- the graphemes so far have no column
abbrev pub invariant-loop-cluster : goal.invariant-loop-cluster
invariant-loop-cluster l = sum_by (columns_of false) (clusters_left l.cluster-iterator) ≡ sum_by (columns_of false) (clusters l.text)
