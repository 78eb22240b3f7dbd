use Rattle.std.proofs.Common.{ℕ, ◌-◌, ◌∙◌, ap}
use Rattle.tui_bars.proofs.GaugeStrokes.{bar_painted}
use Rattle.tui_bars.specs.LineGauge.{line_gauge_data}
use Rattle.tui_bars.proofs.line_gauge.LineGauge.paint_line.Goals as goal

pub returns-clause-ok : goal.returns-clause-ok
returns-clause-ok c =
    bar_painted _ c.args.area (line_gauge_data c.args.self.now) c.args.start _ _ _ _ _ _ _ _ _
    (c.saturating_sub-columns.ensures ∙ ap (λ (n : ℕ). n - c.args.start) c.right.ensures) c.whole_columns-count.ensures c.saturating_add.ensures c.saturating_sub.ensures
    c.cells_at-filled.ensures c.cells_at-rest.ensures c.in_ok-fill_clipped.ensures.ok c.fill_clipped-2.ensures.ok
