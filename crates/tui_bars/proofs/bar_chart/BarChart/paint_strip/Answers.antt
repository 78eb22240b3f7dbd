use Rattle.tui_bars.proofs.Walks.{strip_painted}
use Rattle.tui_bars.specs.BarChart.{bar_chart_data}
use Rattle.tui_bars.proofs.bar_chart.BarChart.paint_strip.Goals as goal

pub returns-clause-ok : goal.returns-clause-ok
returns-clause-ok c = strip_painted _ (bar_chart_data c.args.self.now) c.args.plan _ _ _ _ _ _ _ _ c.saturating_add.ensures c.saturating_sub.ensures c.in_ok-fill_clipped.ensures.ok c.fill_clipped-2.ensures.ok
