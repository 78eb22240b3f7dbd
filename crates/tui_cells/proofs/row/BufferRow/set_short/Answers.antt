use Rattle.tui_cells.specs.Cell.{write}
use Rattle.tui_cells.proofs.Making.{made_row, plain_row}
use Rattle.tui_cells.proofs.row.BufferRow.set_short.Goals as goal

pub invariant_of-self : goal.invariant_of-self
invariant_of-self c =
    plain_row _ _ _ c.args.from c.args.to (write c.args.symbol.bytes) _ _ (λ d is. is) (made_row c.self.invariant c.make_cells.ensures) c.write_cells.ensures
