use Rattle.tui_text.specs.Line.{line_data}
use Rattle.tui_bars.proofs.Walks.{titled_painted}
use Rattle.tui_bars.specs.BarChart.{bar_chart_data}
use Rattle.tui_bars.proofs.bar_chart.BarChart.paint_titled.Goals as goal

pub returns-clause-ok : goal.returns-clause-ok
returns-clause-ok c =
    titled_painted _ (bar_chart_data c.args.self.now) c.args.clip c.args.part (line_data c.args.label.now) _ _ _ _ _
    c.intersection-part.ensures c.alignment_of-alignment.ensures c.set_style.ensures c.paint_row.ensures.ok
