use Rattle.std.proofs.Common.{arith}
use Rattle.tui_cells.proofs.Painting.{KeptOutside-then}
use Rattle.tui_bars.proofs.SparklineBars.{bar_done, bar_more}
use Rattle.tui_bars.specs.Sparkline.{sparkline_bar_data, sparkline_data}
use Rattle.tui_bars.proofs.sparkline.Sparkline.paint_content.Goals as goal

pub bars-preserved : goal.bars-preserved
bars-preserved c = record {
  rest = λ final q. c.bars.invariant.rest final
      (bar_more sparkline_bar_data c.args.self.now.bars.items (sparkline_data c.args.self.now) c.args.area _ c.bars.i c.args.area.width
      c.index-bar.result.now c.index-bar.result.now _ _ final (omega (arith, c.min-count.ensures)) (omega (arith, c.min-count.ensures)) (search) c.in_ok-paint_bar.ensures.ok q);
  kept = KeptOutside-then c.bars.invariant.kept c.in_ok-paint_bar.ensures.kept;
}

pub returns-clause-ok : goal.returns-clause-ok
returns-clause-ok c =
    c.bars.invariant.rest _ (bar_done sparkline_bar_data c.args.self.now.bars.items _ _ _ c.bars.i c.args.area.width _ (omega (arith, c.min-count.ensures)))
