use Rattle.std.proofs.Common.{rules}
use Rattle.tui_cells.proofs.RowWritingLaws.{written_no_style}
use Rattle.tui_cells.proofs.row.BufferRow.make_ascii.Goals as goal

pub returns-then-eq : goal.returns-then-eq
returns-then-eq c = written_no_style c.args.style (search rules) (rw c.requires.within.0 c.write_ascii.ensures)
