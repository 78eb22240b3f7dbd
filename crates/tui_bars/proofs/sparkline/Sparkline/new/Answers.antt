use Rattle.std.proofs.Common.{refl}
use Rattle.tui_bars.proofs.sparkline.Sparkline.new.Goals as goal

pub returns : goal.returns
unfolding lib.Utf8.encode
returns c = rw (c.new.ensures.items, c.new-2.ensures, c.new-3.ensures) refl
