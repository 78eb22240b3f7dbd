use Rattle.std.proofs.Common.{arith, refl, rules}
use Rattle.tui_cells.specs.Cell.{wipe}
use Rattle.tui_cells.proofs.Making.{plain_row, some_made}
use Rattle.tui_cells.proofs.row.BufferRow.reset.Goals as goal

pub invariant_of-self : goal.invariant_of-self
invariant_of-self c =
    let len = some_made c.self.inside.width c.self.inside.cells.items (search (rules, arith)) c.self.invariant.wide in
    plain_row _ _ _ c.args.from c.args.to wipe _ _ (λ d is. refl) (len, c.self.invariant.rest) c.wipe_cells.ensures
