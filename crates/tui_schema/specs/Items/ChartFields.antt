-- The fields of `bar_chart` and of `sparkline`.
use Rattle.std.specs.Prelude.{ℕ, List, Option, Result, Ok, unwrap_or}
use Rattle.serde_json.specs.Data.{Data}
use Rattle.tui_cells.specs.Cell.{space}
use Rattle.tui_cells.specs.Symbols.{BarData as BarSymbols, nine_levels}
use Rattle.tui_cells.specs.declared.style.Style.{Style}
use Rattle.tui_bars.specs.BarChart.{BarChartData, with_bars}
use Rattle.tui_bars.specs.Sparkline.{SparklineData}
use Rattle.tui_bars.specs.declared.render_direction.RenderDirection.{RenderDirection}
use Rattle.tui_bars.specs.declared.render_direction.RenderDirection.TheVariants.{LeftToRight}
use Rattle.tui_layout.specs.declared.direction.Direction.{Direction}
use Rattle.tui_layout.specs.declared.direction.Direction.TheVariants.{Vertical}
use Rattle.tui_schema.specs.declared.field.Field.TheVariants as fields
use Rattle.tui_schema.specs.Items.Frame.{frame_in, style_in}
use Rattle.tui_schema.specs.Kinds.Bars.{bar_set_of, group_of, sparkline_bar_of}
use Rattle.tui_json.specs.Members.{list_of}
use Rattle.tui_json.specs.Named.{named_of}
use Rattle.tui_json.specs.Names.{directions}
use Rattle.tui_schema.specs.Kinds.Names.{render_directions}
use Rattle.tui_json.specs.Number.{u16_of, u64_of}
use Rattle.tui_schema.specs.Kinds.Symbol.{symbol_of}
use Rattle.tui_json.specs.Refusals.{◌>>=◌}
use Rattle.tui_schema.specs.Refusals.{required, optional}
use Rattle.tui_schema.specs.declared.bad_field.BadField.{BadField}

-- the widths of the bars and gaps, and the symbols
unfoldable pub chart_space_of : Option ℕ → Data → Result (ℕ × ℕ × ℕ × Option BarSymbols) BadField
chart_space_of i d = do
  width ← optional u16_of i fields.BarWidth d
  gap ← optional u16_of i fields.BarGap d
  group_gap ← optional u16_of i fields.GroupGap d
  symbols ← optional bar_set_of i fields.BarSet d
  Ok (unwrap_or width 1, unwrap_or gap 1, unwrap_or group_gap 0, symbols)

-- the styles of bars, values and labels, and the direction
unfoldable pub chart_styles_of : Option ℕ → Data → Result (Style × Style × Style × Direction) BadField
chart_styles_of i d = do
  bar_style ← style_in i fields.BarStyle d
  value_style ← style_in i fields.ValueStyle d
  label_style ← style_in i fields.LabelStyle d
  direction ← optional (named_of directions) i fields.Direction d
  Ok (bar_style, value_style, label_style, unwrap_or direction Vertical)

-- all fields of a bar chart
unfoldable pub shown_chart : Option ℕ → Data → Result BarChartData BadField
shown_chart i d = do
  frame ← frame_in i d
  groups ← required (list_of group_of) i fields.Groups d
  max ← optional u64_of i fields.Max d
  space ← chart_space_of i d
  styles ← chart_styles_of i d
  Ok (record {
    block = frame.0;
    groups = with_bars groups;
    style = frame.1;
    max = max;
    width = space.0;
    gap = space.1;
    group_gap = space.2;
    symbols = unwrap_or space.3 nine_levels;
    bar_style = styles.0;
    value_style = styles.1;
    label_style = styles.2;
    direction = styles.3;
  })

-- how missing values and bars are drawn, and the direction
unfoldable pub sparkline_strokes_of : Option ℕ → Data → Result (Style × Option (List ℕ) × Option BarSymbols × RenderDirection) BadField
sparkline_strokes_of i d = do
  absent_style ← style_in i fields.AbsentValueStyle d
  absent_symbol ← optional symbol_of i fields.AbsentValueSymbol d
  symbols ← optional bar_set_of i fields.BarSet d
  direction ← optional (named_of render_directions) i fields.Direction d
  Ok (absent_style, absent_symbol, symbols, unwrap_or direction LeftToRight)

-- all fields of a sparkline
unfoldable pub shown_sparkline : Option ℕ → Data → Result SparklineData BadField
shown_sparkline i d = do
  frame ← frame_in i d
  bars ← required (list_of sparkline_bar_of) i fields.Data d
  max ← optional u64_of i fields.Max d
  strokes ← sparkline_strokes_of i d
  Ok (record {
    block = frame.0;
    style = frame.1;
    absent_style = strokes.0;
    absent_symbol = unwrap_or strokes.1 space;
    bars = bars;
    max = max;
    symbols = unwrap_or strokes.2 nine_levels;
    direction = strokes.3;
  })
