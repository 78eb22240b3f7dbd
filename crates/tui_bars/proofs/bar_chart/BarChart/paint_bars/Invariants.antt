use Rattle.std.proofs.Common.{drop, map, take}
use Rattle.std.specs.Prelude.{flat_map}
use Rattle.tui_cells.specs.Buffer.{Screen}
use Rattle.tui_cells.specs.Layers.{KeptOutside, Painted}
use Rattle.tui_cells.specs.Rect.{covers}
use Rattle.tui_bars.specs.BarChart.{bar_data, bar_chart_data}
use Rattle.tui_bars.specs.Shown.{bars_of, placed_bars, shown_data}
use Rattle.tui_bars.specs.ChartStrokes.{bar_layers}
use Rattle.tui_bars.proofs.bar_chart.BarChart.paint_bars.Given as goal

-- the bars that are left complete the group
abbrev pub invariant-bars : goal.invariant-bars
invariant-bars l = record {
  rest : (final : Screen) → Painted (flat_map (bar_layers (bar_chart_data l.self) l.walk.plan l.walk.pass)
      (placed_bars (bar_chart_data l.self) l.place (drop l.j (take l.shown.count (map bar_data l.shown.group.now.bars.items))))) l.buf final
      → Painted (flat_map (bar_layers (bar_chart_data l.self) l.walk.plan l.walk.pass)
      (bars_of (bar_chart_data l.self) (shown_data l.shown))) l.fn.buf final;
  kept : KeptOutside (covers l.walk.plan.area) l.fn.buf l.buf;
}
