use Rattle.std.proofs.Common.{refl}
use Rattle.tui_schema.proofs.kinds.bars.nine_levels.Goals as goal

pub returns : goal.returns
unfolding lib.Utf8.encode
returns c = refl
