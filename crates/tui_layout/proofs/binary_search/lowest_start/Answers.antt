use Rattle.std.proofs.Common.{arith}
use Rattle.tui_layout.proofs.BinarySearchLaws.{lowest_found_back}
use Rattle.tui_layout.proofs.binary_search.lowest_start.Goals as goal

pub returns-clause-lowest : goal.returns-clause-lowest
returns-clause-lowest g c =
    lowest_found_back _ _ _ _ _ _ _ c.requires.within c.saturating_sub-latest.ensures (omega arith) c.greatest-back.ensures.most
