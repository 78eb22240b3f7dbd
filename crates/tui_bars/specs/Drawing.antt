-- Gauges, bar charts and sparklines as drawings.
use Rattle.std.specs.Prelude.{List, Option}
use Rattle.tui_cells.specs.declared.rect.Rect.{Rect}
use Rattle.tui_cells.specs.declared.style.Style.{Style}
use Rattle.tui_cells.specs.Cell.{IsAllocationFree}
use Rattle.tui_cells.specs.Drawing.{Drawing}
use Rattle.tui_cells.specs.Layers.{Layer, Painted, StayIn}
use Rattle.tui_cells.specs.Rect.{covers}
use Rattle.tui_frames.specs.Block.{BlockData}
use Rattle.tui_frames.specs.Footprint.{footprint_if}
use Rattle.tui_frames.specs.InBlock.{IsAllocationFreeIfBlock, inner_of}
use Rattle.tui_frames.specs.Drawing.{in_block_drawing}
use Rattle.tui_frames.specs.InBlockStays.{nowhere_if}
use Rattle.tui_bars.specs.BarChart.{BarChartData}
use Rattle.tui_bars.specs.AllocationFreeCharts.{IsAllocationFreeChart}
use Rattle.tui_bars.specs.ChartStays.{bar_chart_stays}
use Rattle.tui_bars.specs.ChartStrokes.{bar_chart_layers}
use Rattle.tui_bars.specs.Framed.{framed_layers}
use Rattle.tui_bars.specs.Gauge.{GaugeData, IsAllocationFreeLabel, gauge_layers}
use Rattle.tui_bars.specs.LineGauge.{IsAllocationFreeLine, LineGaugeData, line_gauge_layers}
use Rattle.tui_bars.specs.Levels.{AreAllocationFreeLevels}
use Rattle.tui_bars.specs.Sparkline.{SparklineData, sparkline_layers}
use Rattle.tui_bars.specs.Stays.{framed_stays, gauge_stays, line_gauge_stays, sparkline_stays}

-- a widget with a style and an optional block, drawn by its strokes
abbrev pub framed_drawing : Option BlockData → Style → (content : Rect → List Layer) → Type 0 →
    ((area : Rect) → StayIn (covers area) (content area)) → Drawing
framed_drawing block style content allocation_free stays = record {
  layers = framed_layers block style content;
  footprint = footprint_if block;
  shows = λ clip. Painted (framed_layers block style content clip);
  allocation_free = allocation_free;
  stays = λ clip. framed_stays block style content clip (stays (inner_of block clip));
  nowhere = nowhere_if block;
}

-- a gauge that is drawn without allocating
pub record IsAllocationFreeGauge (g : GaugeData) : Type 0 where
  pub block : IsAllocationFreeIfBlock g.block
  pub label : IsAllocationFreeLabel g.label

-- a line gauge that is drawn without allocating
pub record IsAllocationFreeLineGauge (g : LineGaugeData) : Type 0 where
  pub block : IsAllocationFreeIfBlock g.block
  pub label : IsAllocationFreeLine g.label
  pub filled : IsAllocationFree g.filled
  pub unfilled : IsAllocationFree g.unfilled

-- each widget as a drawing
abbrev pub gauge_drawing : GaugeData → Drawing
gauge_drawing g = framed_drawing g.block g.style (gauge_layers g) (IsAllocationFreeGauge g) (gauge_stays g)

abbrev pub line_gauge_drawing : LineGaugeData → Drawing
line_gauge_drawing g = framed_drawing g.block g.style (line_gauge_layers g) (IsAllocationFreeLineGauge g) (line_gauge_stays g)

-- a sparkline that is drawn without allocating; it has no style under its block
pub record IsAllocationFreeSparkline (s : SparklineData) : Type 0 where
  pub block : IsAllocationFreeIfBlock s.block
  pub symbols : AreAllocationFreeLevels s.symbols
  pub absent : IsAllocationFree s.absent_symbol

abbrev pub sparkline_drawing : SparklineData → Drawing
sparkline_drawing s = in_block_drawing s.block (sparkline_layers s) (IsAllocationFreeSparkline s) (sparkline_stays s)

abbrev pub bar_chart_drawing : BarChartData → Drawing
bar_chart_drawing c = framed_drawing c.block c.style (bar_chart_layers c) (IsAllocationFreeChart c) (bar_chart_stays c)
