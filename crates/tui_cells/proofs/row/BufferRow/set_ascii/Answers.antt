use Rattle.std.proofs.Common.{arith, rules}
use Rattle.tui_cells.proofs.Making.{some_made}
use Rattle.tui_cells.proofs.RowWritingLaws.{written_cells, written_row, written_no_style}
use Rattle.tui_cells.proofs.row.BufferRow.set_ascii.Goals as goal

pub invariant_of-self : goal.invariant_of-self
invariant_of-self c =
    let len = some_made c.self.inside.width c.self.inside.cells.items (search (rules, arith)) c.self.invariant.wide in
    written_row _ _ _ _ _ c.args.text.now _ _ (len, c.self.invariant.rest) c.write_ascii.ensures

pub returns-then-not-is_empty : goal.returns-then-not-is_empty
returns-then-not-is_empty c =
    let len = some_made c.self.inside.width c.self.inside.cells.items (search (rules, arith)) c.self.invariant.wide in
    rw (← c.self.view_is) (written_cells c.self.inside.width len (written_no_style c.args.style (search rules) (rw c.requires.within.0 c.write_ascii.ensures)))
