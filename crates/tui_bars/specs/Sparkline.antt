-- A sparkline as plain data, and its strokes.
use Rattle.std.specs.Prelude.{ℕ, ◌+◌, ◌-◌, max, List, [], ◌∷◌, ◌++◌, fold, map, take, Option, None, Some, option_map, unwrap_or}
use Rattle.tui_cells.specs.declared.rect.Rect.{Rect}
use Rattle.tui_cells.specs.declared.style.Style.{Style}
use Rattle.tui_cells.specs.Cell.{space}
use Rattle.tui_cells.specs.Layers.{Layer}
use Rattle.tui_cells.specs.Style.{no_style, patched}
use Rattle.tui_cells.specs.Symbols.{bar_data, nine_levels}
use Rattle.tui_cells.specs.Symbols.{BarData as BarSymbols}
use Rattle.tui_frames.specs.Block.{BlockData, block_data}
use Rattle.tui_frames.specs.Space.{past}
use Rattle.tui_bars.specs.Areas.{fill_layers}
use Rattle.tui_bars.specs.Levels.{vertical_bar_layers, ticks}
use Rattle.tui_bars.specs.declared.render_direction.RenderDirection.{RenderDirection}
use Rattle.tui_bars.specs.declared.render_direction.RenderDirection.TheVariants.{LeftToRight, RightToLeft}
use Rattle.tui_bars.specs.declared.sparkline.Sparkline.{Sparkline}
use Rattle.tui_bars.specs.declared.sparkline_bar.SparklineBar.{SparklineBar}

-- a value, which may be absent, and optionally its own style
pub record SparklineBarData : Type 0 where
  pub value : Option ℕ
  pub style : Option Style

-- a bar of the code as plain data
abbrev pub sparkline_bar_data : SparklineBar → SparklineBarData
sparkline_bar_data b = record { value = b.value; style = b.style }

-- a sparkline as plain data
pub record SparklineData : Type 0 where
  pub block : Option BlockData
  pub style : Style
  pub absent_style : Style
  pub absent_symbol : List ℕ
  pub bars : List SparklineBarData
  pub max : Option ℕ
  pub symbols : BarSymbols
  pub direction : RenderDirection

-- a sparkline of the code as plain data
abbrev pub sparkline_data : Sparkline → SparklineData
sparkline_data s = record {
  block = option_map block_data s.block;
  style = s.style;
  absent_style = s.absent_value_style;
  absent_symbol = s.absent_value_symbol.now;
  bars = map sparkline_bar_data s.bars.items;
  max = s.max;
  symbols = bar_data s.bar_set;
  direction = s.direction;
}

-- a sparkline without bars
abbrev pub empty_sparkline : SparklineData
empty_sparkline = record {
  block = None;
  style = no_style;
  absent_style = no_style;
  absent_symbol = space;
  bars = [];
  max = None;
  symbols = nine_levels;
  direction = LeftToRight;
}

-- the value that fills a column: `max` if it is set, otherwise the greatest value that is present
abbrev pub greatest_of : SparklineData → ℕ
greatest_of s = unwrap_or s.max (fold max 0 (map (λ b. unwrap_or b.value 0) s.bars))

-- the offset of bar i in the width, by the side of the first bar
abbrev pub side : RenderDirection → ℕ → ℕ → ℕ
side LeftToRight width i = i
side RightToLeft width i = width - 1 - i

-- the column of bar i
abbrev pub column_at : SparklineData → Rect → ℕ → Rect
column_at s area i = record area { x = past area.x (side s.direction area.width i); width = 1 }

-- a bar in its column: its cells by its ticks, or the symbol for an absent value in each cell
abbrev pub value_layers : SparklineData → Rect → Rect → ℕ → Option Style → Option ℕ → List Layer
value_layers s area column greatest style None = fill_layers area column s.absent_symbol (patched s.style s.absent_style)
value_layers s area column greatest style (Some value) =
    vertical_bar_layers s.symbols area column (patched s.style (unwrap_or style no_style)) (ticks greatest value column.height)

-- bar i in its column
abbrev pub bar_layers : SparklineData → Rect → ℕ → ℕ → SparklineBarData → List Layer
bar_layers s area greatest i bar = value_layers s area (column_at s area i) greatest bar.style bar.value

-- bars side by side; the first of them is bar i
unfoldable pub bars_layers : SparklineData → Rect → ℕ → ℕ → List SparklineBarData → List Layer
bars_layers s area greatest i [] = []
bars_layers s area greatest i (b ∷ bs) = bar_layers s area greatest i b ++ bars_layers s area greatest (i + 1) bs

-- the strokes inside the block: the bars that have a column
abbrev pub sparkline_layers : SparklineData → Rect → List Layer
sparkline_layers s area = bars_layers s area (greatest_of s) 0 (take area.width s.bars)
