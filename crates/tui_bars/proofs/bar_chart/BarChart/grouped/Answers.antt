use Rattle.std.proofs.Common.{refl}
use Rattle.tui_bars.proofs.bar_chart.BarChart.grouped.Goals as goal

pub returns : goal.returns
unfolding lib.Utf8.encode
returns c = rw (c.without_empty.ensures, c.new.ensures, c.new-2.ensures, c.new-3.ensures, c.new-4.ensures) refl
