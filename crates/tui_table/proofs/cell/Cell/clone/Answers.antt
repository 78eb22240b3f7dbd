use Rattle.std.proofs.lemmas.Bool.{and_parts}
use Rattle.tui_table.specs.contracts.cell.CellEq.TheImpl.Laws.{laws-law}
use Rattle.tui_table.proofs.cell.Cell.clone.Goals as goal

pub returns-clause-equal : goal.returns-clause-equal
returns-clause-equal c = rw c.in_ok-clone.ensures.equal (and_parts _ _ (laws-law.refl c.args.self.now)).1
