-- A line gauge as plain data, and its strokes.
use Rattle.std.specs.Prelude.{⊤, ℕ, ◌-◌, ◌*◌, ◌/◌, List, [], ◌∷◌, ◌++◌, Option, None, Some, option_map, unwrap_or}
use Rattle.tui_cells.specs.declared.color.Color.{Color}
use Rattle.tui_cells.specs.declared.color.Color.TheVariants.{Reset}
use Rattle.tui_cells.specs.declared.rect.Rect.{Rect}
use Rattle.tui_cells.specs.declared.style.Style.{Style}
use Rattle.tui_cells.specs.Layers.{Layer}
use Rattle.tui_cells.specs.Rect.{right_of}
use Rattle.tui_cells.specs.Style.{no_style}
use Rattle.tui_cells.specs.Symbols.{utf8}
use Rattle.tui_frames.specs.Block.{BlockData, block_data}
use Rattle.tui_frames.specs.Space.{past}
use Rattle.tui_text.specs.Line.{LineData, line_data}
use Rattle.tui_text.specs.Painting.{cells_at}
use Rattle.tui_text.specs.Setting.{AreAllocationFree, corner, line_spans, set_column, set_layers}
use Rattle.tui_text.specs.Span.{SpanData, raw_span}
use Rattle.tui_bars.specs.Areas.{fill_layers}
use Rattle.tui_bars.specs.Percent.{percent_label}
use Rattle.tui_bars.specs.declared.line_gauge.LineGauge.{LineGauge}

-- a line gauge as plain data
pub record LineGaugeData : Type 0 where
  pub block : Option BlockData
  pub num : ℕ
  pub den : ℕ
  pub label : Option LineData
  pub style : Style
  pub filled : List ℕ
  pub unfilled : List ℕ
  pub filled_style : Style
  pub unfilled_style : Style

-- a line gauge of the code as plain data
abbrev pub line_gauge_data : LineGauge → LineGaugeData
line_gauge_data g = record {
  block = option_map block_data g.block;
  num = g.share.num;
  den = g.share.den;
  label = option_map line_data g.label;
  style = g.style;
  filled = g.filled_symbol.now;
  unfilled = g.unfilled_symbol.now;
  filled_style = g.filled_style;
  unfilled_style = g.unfilled_style;
}

-- a line gauge with the thin line `─`, with nothing filled and nothing else set
abbrev pub empty_line_gauge : LineGaugeData
empty_line_gauge = record {
  block = None;
  num = 0;
  den = 1;
  label = None;
  style = no_style;
  filled = utf8 "─";
  unfilled = utf8 "─";
  filled_style = no_style;
  unfilled_style = no_style;
}

-- the style with this foreground, `Reset` if it is not set, on the background `Reset`
abbrev pub symbol_style : Style → Option Color → Style
symbol_style s color = record s { fg = Some (unwrap_or color Reset); bg = Some Reset }

-- the spans of the label that is set, otherwise of the percentage
abbrev pub label_spans : LineGaugeData → Option LineData → List SpanData
label_spans g None = raw_span (percent_label g.num g.den) ∷ []
label_spans g (Some line) = line_spans line

-- the label at the area's corner
abbrev pub label_layers : LineGaugeData → Rect → List Layer
label_layers g area = set_layers area (corner area) (label_spans g g.label) area.width

-- the column after the label
abbrev pub label_end : LineGaugeData → Rect → ℕ
label_end g area = set_column area (corner area) (label_spans g g.label) area.width

-- the line in the first row from a column on, its first part filled; it has no columns if it starts past the area
unfoldable pub bar_layers : LineGaugeData → Rect → ℕ → List Layer
bar_layers g area start =
    let columns = right_of area - start in
    let count = columns * g.num / g.den in
    fill_layers area (cells_at start area.y count) g.filled g.filled_style
    ++ fill_layers area (cells_at (past start count) area.y (columns - count)) g.unfilled g.unfilled_style

-- the strokes inside the block: the label, and the line from one column after it
abbrev pub line_gauge_layers : LineGaugeData → Rect → List Layer
line_gauge_layers g area = label_layers g area ++ bar_layers g area (past (label_end g area) 1)

-- no label of its own, or one that is written without allocating
abbrev pub IsAllocationFreeLine : Option LineData → Type 0
IsAllocationFreeLine None = ⊤
IsAllocationFreeLine (Some line) = AreAllocationFree line.spans
