use Rattle.std.proofs.lemmas.Bool.{and_parts}
use Rattle.tui_bars.specs.contracts.line_gauge.LineGaugeEq.TheImpl.Laws.{laws-law}
use Rattle.tui_bars.proofs.line_gauge.LineGauge.clone.Goals as goal

pub returns-clause-equal : goal.returns-clause-equal
returns-clause-equal c =
    rw (c.in_ok-clone_if_some.ensures.equal, c.in_ok-clone_label.ensures.equal) (and_parts _ _ (and_parts _ _ (laws-law.refl c.args.self.now)).1).1
