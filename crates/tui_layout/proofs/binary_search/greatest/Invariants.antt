use Rattle.std.proofs.Common.{◌-◌}
use Rattle.tui_layout.proofs.BinarySearchLaws.{IsSearching}
use Rattle.tui_layout.proofs.binary_search.greatest.Given as goal

abbrev pub invariant-halving : goal.invariant-halving
invariant-halving g l = IsSearching l.sums l.reach l.height l.least l.most l.low l.high l.fn.steps l.steps

abbrev pub decreases-halving : goal.decreases-halving
decreases-halving g l = l.high - l.low
