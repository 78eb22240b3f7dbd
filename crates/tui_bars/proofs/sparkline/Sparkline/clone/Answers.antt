use Rattle.std.proofs.lemmas.Bool.{and_parts}
use Rattle.tui_bars.specs.contracts.sparkline.SparklineEq.TheImpl.Laws.{laws-law}
use Rattle.tui_bars.proofs.sparkline.Sparkline.clone.Goals as goal

pub returns-clause-equal : goal.returns-clause-equal
returns-clause-equal c =
    rw (c.in_ok-clone_if_some.ensures.equal, c.in_ok-from_slice.ensures.items, c.deref.ensures.value) (and_parts _ _ (laws-law.refl c.args.self.now)).1
