use Rattle.std.proofs.Common.{arith}
use Rattle.tui_cells.proofs.Painting.{KeptOutside-then}
use Rattle.tui_bars.specs.BarChart.{bar_chart_data, group_data}
use Rattle.tui_bars.specs.AllocationFreeCharts.{IsAllocationFreeGroup, direction_of}
use Rattle.tui_text.proofs.Elements.{seen_at}
use Rattle.tui_bars.specs.ChartStrokes.{group_layers}
use Rattle.tui_bars.proofs.Walks.{group_done, group_more}
use Rattle.tui_bars.proofs.bar_chart.BarChart.paint_walk.Goals as goal

pub groups-preserved : goal.groups-preserved
groups-preserved c = record {
  rest = λ final q. c.groups.invariant.rest final
      (group_more group_data c.args.self.now.groups.items (bar_chart_data c.args.self.now) (group_layers (bar_chart_data c.args.self.now) c.args.walk.plan c.args.walk.pass)
      _ _ c.groups.i _ _ _ _ c.index-group.result.now _ _ final (omega arith) (search) c.len-bars.ensures
      c.shown_in-count.ensures.is c.place_after-at.ensures c.space_after-space.ensures c.in_ok-paint_shown.ensures.ok q);
  kept = KeptOutside-then c.groups.invariant.kept c.in_ok-paint_shown.ensures.kept;
}

pub returns-clause-ok : goal.returns-clause-ok
returns-clause-ok c = c.groups.invariant.rest _ (group_done group_data c.args.self.now.groups.items _ _ _ _ c.groups.i _ (omega arith))

pub returns-in_err-paint_shown-clause-allocation_free : goal.returns-in_err-paint_shown-clause-allocation_free
returns-in_err-paint_shown-clause-allocation_free c levels all =
    let broken = c.in_err-paint_shown.ensures.allocation_free levels
    (seen_at group_data (IsAllocationFreeGroup (direction_of c.args.walk.pass)) c.args.self.now.groups.items c.groups.i c.index-group.result.now c.index-group.result.now (omega arith) (search) all) in
    cc
