use Rattle.std.proofs.Common.{rules}
use Rattle.tui_cells.proofs.Copies.{copied_buffer}
use Rattle.tui_cells.proofs.buffer.Buffer.copy_from.Goals as goal

pub invariant_of-self : goal.invariant_of-self
invariant_of-self c =
    copied_buffer c.copy_rows.result c.self.inside.area c.deref.result.now _ c.copy_rows.new.rows.items _ c.other.inside.blanks.items
    c.self.invariant (search (rules, c.other.invariant)) c.copy_rows.ensures.ok c.copy_rows.ensures.err

pub returns-clause-allocation_free : goal.returns-clause-allocation_free
returns-clause-allocation_free c = λ allocation_free. c.copy_rows.ensures.allocation_free (search (rules, allocation_free))
