use Rattle.std.proofs.Common.{refl}
use Rattle.tui_cells.proofs.symbols.bar.sets.Goals as goal

pub returns : goal.returns
unfolding lib.Utf8.encode
returns c = refl
