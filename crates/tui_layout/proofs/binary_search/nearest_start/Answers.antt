use Rattle.std.proofs.Common.{arith}
use Rattle.tui_layout.proofs.Windows.{nearest_is}
use Rattle.tui_layout.proofs.binary_search.nearest_start.Goals as goal

pub returns-clause-nearest : goal.returns-clause-nearest
returns-clause-nearest g c =
    nearest_is _ _ _ _ _ _ _ c.requires.within c.requires.fits c.lowest_start-lowest.ensures.lowest (omega arith)
