use Rattle.tui_bars.proofs.Walks.{vertical_painted}
use Rattle.tui_bars.specs.BarChart.{bar_chart_data}
use Rattle.tui_bars.proofs.bar_chart.BarChart.paint_directed.Goals as goal

pub returns-in_ok-paint_walk-in-Vertical-clause-ok : goal.returns-in_ok-paint_walk-in-Vertical-clause-ok
returns-in_ok-paint_walk-in-Vertical-clause-ok c =
    vertical_painted _ (bar_chart_data c.args.self.now) c.args.area _ _ _ _ _ c.in-Vertical.is c.vertical_plan-plan.ensures
    c.in_ok-paint_walk-in-Vertical.ensures.ok c.paint_walk-in-Vertical.ensures.ok
