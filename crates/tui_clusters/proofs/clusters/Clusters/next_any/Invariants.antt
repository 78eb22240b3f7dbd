use Rattle.std.proofs.Common.{◌≡◌, ◌+◌, ◌*◌, length}
use Rattle.tui_clusters.specs.Clusters.{clusters_left, part_left}
use Rattle.tui_clusters.proofs.clusters.Clusters.next_any.Given as goal

abbrev pub invariant-clusters : goal.invariant-clusters
invariant-clusters l = clusters_left l.fn.self ≡ clusters_left l.self

abbrev pub decreases-clusters : goal.decreases-clusters
decreases-clusters l = 2 * length l.self.rest.now + length (part_left l.self)
