use Rattle.std.proofs.Common.{rules}
use Rattle.tui_cells.proofs.NoStyleLaws.{nothing_set}
use Rattle.tui_cells.proofs.buffer.Buffer.set_style.Goals as goal

pub returns-then-eq : goal.returns-then-eq
returns-then-eq c = nothing_set _ _ _ (search rules)
