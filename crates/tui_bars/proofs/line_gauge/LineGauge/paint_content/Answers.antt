use Rattle.tui_bars.proofs.GaugeStrokes.{line_gauge_painted}
use Rattle.tui_bars.specs.LineGauge.{line_gauge_data}
use Rattle.tui_bars.proofs.line_gauge.LineGauge.paint_content.Goals as goal

pub returns-clause-ok : goal.returns-clause-ok
returns-clause-ok c =
    line_gauge_painted _ c.args.area (line_gauge_data c.args.self.now) _ _ _ _ _ c.in_ok-end.ensures.end c.saturating_add.ensures
    c.in_ok-end.ensures.ok c.paint_line.ensures.ok
