use Rattle.tui_panes_lib.proofs.DisjointLeaves.{are_disjoint_within}
use Rattle.tui_panes_lib.proofs.laws.tree_laws.Goals as goal

pub returns : goal.returns
returns c = record { apart = are_disjoint_within }
