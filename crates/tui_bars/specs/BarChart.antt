-- A bar chart as plain data.
use Rattle.std.specs.Prelude.{ℕ, max, nat_lt, Bool, List, [], ◌∷◌, length, map, filter, fold, Option, None, option_map, unwrap_or, decimal}
use Rattle.std.specs.List.{list_any}
use Rattle.std.specs.Option.{is_some, option_copied, option_map_or}
use Rattle.std.specs.Prelude.{min, false}
use Rattle.tui_cells.specs.Rect.{farthest_edge}
use Rattle.tui_cells.specs.declared.style.Style.{Style}
use Rattle.tui_cells.specs.Style.{no_style}
use Rattle.tui_cells.specs.Symbols.{bar_data as symbols_of, nine_levels}
use Rattle.tui_cells.specs.Symbols.{BarData as BarSymbols}
use Rattle.tui_frames.specs.Block.{BlockData, block_data}
use Rattle.tui_layout.specs.declared.direction.Direction.{Direction}
use Rattle.tui_text.specs.Line.{LineData, line_data}
use Rattle.tui_text.specs.Width.{line_width}
use Rattle.tui_bars.specs.declared.bar.Bar.{Bar}
use Rattle.tui_bars.specs.declared.bar_chart.BarChart.{BarChart}
use Rattle.tui_bars.specs.declared.bar_group.BarGroup.{BarGroup}

-- a bar as plain data
pub record BarData : Type 0 where
  pub value : ℕ
  pub label : Option LineData
  pub style : Style
  pub value_style : Style
  pub text : Option (List ℕ)

-- a bar of the code as plain data
abbrev pub bar_data : Bar → BarData
bar_data b = record { value = b.value; label = option_map line_data b.label; style = b.style; value_style = b.value_style; text = option_copied b.text_value }

-- a bar of this value with nothing else set
abbrev pub bar_of : ℕ → BarData
bar_of value = record { value = value; label = None; style = no_style; value_style = no_style; text = None }

-- a group as plain data
pub record GroupData : Type 0 where
  pub label : Option LineData
  pub bars : List BarData

-- a group of the code as plain data
abbrev pub group_data : BarGroup → GroupData
group_data g = record { label = option_map line_data g.label; bars = map bar_data g.bars.items }

-- a bar chart as plain data
pub record BarChartData : Type 0 where
  pub block : Option BlockData
  pub groups : List GroupData
  pub style : Style
  pub max : Option ℕ
  pub width : ℕ
  pub gap : ℕ
  pub group_gap : ℕ
  pub symbols : BarSymbols
  pub bar_style : Style
  pub value_style : Style
  pub label_style : Style
  pub direction : Direction

-- a bar chart of the code as plain data
abbrev pub bar_chart_data : BarChart → BarChartData
bar_chart_data c = record {
  block = option_map block_data c.block;
  groups = map group_data c.groups.items;
  style = c.style;
  max = c.max;
  width = c.bar_width;
  gap = c.bar_gap;
  group_gap = c.group_gap;
  symbols = symbols_of c.bar_set;
  bar_style = c.bar_style;
  value_style = c.value_style;
  label_style = c.label_style;
  direction = c.direction;
}

-- whether a group has bars; groups without bars are left out
abbrev pub has_bars : GroupData → Bool
has_bars g = nat_lt 0 (length g.bars)

-- the groups that have bars
abbrev pub with_bars : List GroupData → List GroupData
with_bars groups = filter has_bars groups

-- a chart of groups with nothing else set: bars are one column wide and one column apart
abbrev pub chart_of : Direction → List GroupData → BarChartData
chart_of direction groups = record {
  block = None;
  groups = groups;
  style = no_style;
  max = None;
  width = 1;
  gap = 1;
  group_gap = 0;
  symbols = nine_levels;
  bar_style = no_style;
  value_style = no_style;
  label_style = no_style;
  direction = direction;
}

-- one group of these bars, if there are any
abbrev pub one_group : List BarData → List GroupData
one_group bars = with_bars (record { label = None; bars = bars } ∷ [])

-- the greatest value of a group, 0 without bars
abbrev pub greatest_in : GroupData → ℕ
greatest_in g = fold max 0 (map (λ b. b.value) g.bars)

-- the value that fills a bar: `max` if it is set, otherwise the greatest value of the chart; at least 1
abbrev pub greatest_of : BarChartData → ℕ
greatest_of c = max (unwrap_or c.max (fold max 0 (map greatest_in c.groups))) 1

-- the width of a bar's label in columns, at most 65535
abbrev pub label_width : BarData → ℕ
label_width b = option_map_or (λ l. min (line_width false l) farthest_edge) b.label 0

-- the width of the widest bar label of a group
abbrev pub label_width_in : GroupData → ℕ
label_width_in g = fold max 0 (map label_width g.bars)

-- the width of the widest bar label of the chart
abbrev pub label_width_of : BarChartData → ℕ
label_width_of c = fold max 0 (map label_width_in c.groups)

-- whether a bar has a label
abbrev pub has_label : BarData → Bool
has_label b = is_some b.label

-- whether any bar of a group has a label
abbrev pub has_bar_label : GroupData → Bool
has_bar_label g = list_any has_label g.bars

-- whether the group itself has a label
abbrev pub has_group_label : GroupData → Bool
has_group_label g = is_some g.label

-- the text of a bar's value: its own text if it has one, otherwise the decimal number
abbrev pub value_text : BarData → List ℕ
value_text b = unwrap_or b.text (decimal b.value)
