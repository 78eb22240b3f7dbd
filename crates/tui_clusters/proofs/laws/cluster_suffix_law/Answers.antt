use Rattle.tui_clusters.proofs.Boundaries.{graphemes-rest}
use Rattle.tui_clusters.proofs.laws.cluster_suffix_law.Goals as goal

pub returns : goal.returns
returns c = λ text k u. graphemes-rest text u k
