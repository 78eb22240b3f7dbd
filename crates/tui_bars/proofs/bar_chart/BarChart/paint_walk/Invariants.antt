use Rattle.std.proofs.Common.{drop, map}
use Rattle.std.specs.Prelude.{flat_map}
use Rattle.tui_cells.specs.Buffer.{Screen}
use Rattle.tui_cells.specs.Layers.{KeptOutside, Painted}
use Rattle.tui_cells.specs.Rect.{covers}
use Rattle.tui_bars.specs.BarChart.{bar_chart_data, group_data}
use Rattle.tui_bars.specs.Shown.{shown_groups}
use Rattle.tui_bars.specs.ChartStrokes.{group_layers}
use Rattle.tui_bars.proofs.bar_chart.BarChart.paint_walk.Given as goal

-- the groups that are left complete the walk
abbrev pub invariant-groups : goal.invariant-groups
invariant-groups l = record {
  rest : (final : Screen) → Painted (flat_map (group_layers (bar_chart_data l.self) l.walk.plan l.walk.pass)
      (shown_groups (bar_chart_data l.self) l.at l.space (drop l.i (map group_data l.self.groups.items)))) l.buf final
      → Painted (flat_map (group_layers (bar_chart_data l.self) l.walk.plan l.walk.pass)
      (shown_groups (bar_chart_data l.self) l.fn.stretch.first l.fn.stretch.room (bar_chart_data l.self).groups)) l.fn.buf final;
  kept : KeptOutside (covers l.walk.plan.area) l.fn.buf l.buf;
}
