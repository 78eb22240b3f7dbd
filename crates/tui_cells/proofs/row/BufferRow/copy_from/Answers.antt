use Rattle.std.proofs.Common.{◌≡◌, length, rules}
use Rattle.tui_cells.proofs.Copies.{copied_row}
use Rattle.tui_cells.proofs.row.BufferRow.copy_from.Goals as goal

pub invariant_of-self-2 : goal.invariant_of-self-2
invariant_of-self-2 c =
    let source = c.deref.result.now in
    let made = c.make_cells.new.cells.items in
    let high : length made ≡ length source = search rules in
    copied_row c.copy_cells.result _ _ _ _ _ _ source _ _ made c.copy_cells.new.cells.items
    c.self.invariant c.other.invariant c.deref.ensures.value c.make_cells.ensures high
    c.copy_cells.ensures.len c.copy_cells.ensures.ok c.copy_cells.ensures.err _
