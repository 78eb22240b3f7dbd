use Rattle.tui_bars.proofs.GaugeStrokes.{ok_then}
use Rattle.tui_bars.specs.VerticalBars.{texts_layers}
use Rattle.tui_bars.proofs.bar_chart.BarChart.paint_texts.Goals as goal

pub returns-clause-ok : goal.returns-clause-ok
unfolding texts_layers
returns-clause-ok c = ok_then _ _ _ c.in_ok-paint_label.ensures.ok c.paint_value.ensures.ok
