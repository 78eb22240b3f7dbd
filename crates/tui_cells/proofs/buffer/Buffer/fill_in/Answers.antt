use Rattle.std.proofs.Common.{rules}
use Rattle.tui_cells.proofs.NoStyleLaws.{nothing_set}
use Rattle.tui_cells.proofs.Painting.{Painted-then}
use Rattle.tui_cells.proofs.buffer.Buffer.fill_in.Goals as goal

pub returns-then-eq : goal.returns-then-eq
returns-then-eq c = Painted-then c.set_short_in.ensures (nothing_set _ _ _ (search rules))
