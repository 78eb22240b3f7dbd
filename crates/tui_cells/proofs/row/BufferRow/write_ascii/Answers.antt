use Rattle.tui_cells.proofs.Making.{made_row}
use Rattle.tui_cells.proofs.RowWritingLaws.{written_row}
use Rattle.tui_cells.proofs.row.BufferRow.write_ascii.Goals as goal

pub invariant_of-self : goal.invariant_of-self
invariant_of-self c = written_row _ _ _ _ _ c.args.text.now _ _ (made_row c.self.invariant c.make_cells.ensures) c.write_ascii.ensures
