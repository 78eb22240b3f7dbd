use Rattle.std.proofs.Common.{arith}
use Rattle.std.proofs.lemmas.Grind.{common_steps}
use Rattle.tui_layout.proofs.BinarySearchLaws.{halved_down, halved_up}
use Rattle.tui_layout.proofs.binary_search.greatest.Goals as goal

pub halving-preserved-then-fits_at : goal.halving-preserved-then-fits_at
halving-preserved-then-fits_at g c =
    halved_up _ _ _ _ _ _ _ _ _ _ _ c.halving.invariant (omega arith) (omega arith) (omega arith) (grind (arith, common_steps)) c.fits_at.ensures.step

pub halving-preserved : goal.halving-preserved
halving-preserved g c =
    halved_down _ _ _ _ _ _ _ _ _ _ _ c.halving.invariant (omega arith) (omega arith) (omega arith) c.requires.ready
    (grind (arith, common_steps)) c.fits_at.ensures.step
