use Rattle.std.proofs.Common.{arith}
use Rattle.std.proofs.lemmas.List.{length-map}
use Rattle.tui_cells.proofs.Painting.{KeptOutside-then}
use Rattle.tui_bars.specs.BarChart.{bar_data, bar_chart_data}
use Rattle.tui_bars.specs.AllocationFreeCharts.{IsAllocationFreeBar, direction_of}
use Rattle.tui_text.proofs.Elements.{seen_at}
use Rattle.tui_bars.specs.ChartStrokes.{bar_layers}
use Rattle.tui_bars.proofs.Walks.{bar_done, bar_more}
use Rattle.tui_bars.proofs.bar_chart.BarChart.paint_bars.Goals as goal

pub bars-preserved : goal.bars-preserved
bars-preserved c = record {
  rest = λ final q. c.bars.invariant.rest final
      (bar_more bar_data c.args.shown.group.now.bars.items (bar_chart_data c.args.self.now) (bar_layers (bar_chart_data c.args.self.now) c.args.walk.plan c.args.walk.pass)
      _ _ c.bars.j c.args.shown.count c.index-bar.result.now _ _ final (omega arith) c.requires (search) c.step-place.ensures c.in_ok-paint_bar.ensures.ok q);
  kept = KeptOutside-then c.bars.invariant.kept c.in_ok-paint_bar.ensures.kept;
}

pub returns-clause-ok : goal.returns-clause-ok
returns-clause-ok c = c.bars.invariant.rest _ (bar_done bar_data c.args.shown.group.now.bars.items _ _ _ c.bars.j c.args.shown.count _ (omega arith) c.requires)

pub returns-in_err-paint_bar-clause-allocation_free : goal.returns-in_err-paint_bar-clause-allocation_free
returns-in_err-paint_bar-clause-allocation_free c levels all =
    let broken = c.in_err-paint_bar.ensures.allocation_free levels
    (seen_at bar_data (IsAllocationFreeBar (direction_of c.args.walk.pass)) c.args.shown.group.now.bars.items c.bars.j c.index-bar.result.now c.index-bar.result.now
    (omega (arith, length-map c.args.shown.group.now.bars.items bar_data)) (search) all) in
    cc
