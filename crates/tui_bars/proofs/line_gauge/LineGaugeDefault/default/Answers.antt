use Rattle.std.proofs.Common.{refl}
use Rattle.tui_bars.proofs.line_gauge.LineGaugeDefault.default.Goals as goal

pub returns : goal.returns
unfolding lib.Utf8.encode
returns c = rw (c.new.ensures, c.new-2.ensures, c.new-3.ensures) refl
