use Rattle.tui_text.specs.contracts.line.LineEq.TheImpl.Laws.{laws-law}
use Rattle.tui_text.proofs.line.Line.clone.Goals as goal

pub returns-clause-equal : goal.returns-clause-equal
returns-clause-equal c = rw (c.in_ok-from_slice.ensures.ok, c.as_slice.ensures) (laws-law.refl c.args.self.now)
