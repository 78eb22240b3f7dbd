-- The strokes of vertical bars.
use Rattle.std.specs.Prelude.{ℕ, ◌-◌, ◌/◌, ◌==◌, ◌&&◌, ◌||◌, min, nat_le, nat_lt, Bool, false, List, [], ◌++◌, length, Option, None, Some, if◌then◌else◌}
use Rattle.tui_cells.specs.Rect.{farthest_edge}
use Rattle.tui_cells.specs.declared.position.Position.{Position}
use Rattle.tui_cells.specs.declared.rect.Rect.{Rect}
use Rattle.tui_cells.specs.declared.style.Style.{Style}
use Rattle.tui_cells.specs.Layers.{Layer}
use Rattle.tui_cells.specs.Style.{patched}
use Rattle.tui_frames.specs.Space.{past}
use Rattle.tui_text.specs.Line.{LineData}
use Rattle.tui_text.specs.Painting.{cells_at}
use Rattle.tui_text.specs.Setting.{set_layers, styled_text}
use Rattle.tui_text.specs.Span.{raw_span}
use Rattle.tui_text.specs.Width.{line_width, span_width}
use Rattle.tui_text.specs.declared.alignment.Alignment.TheVariants.{Center}
use Rattle.tui_bars.specs.BarChart.{BarChartData, BarData, value_text}
use Rattle.tui_bars.specs.Labels.{columns_of, group_title_layers, aligned_in, titled_layers}
use Rattle.tui_bars.specs.Levels.{vertical_bar_layers, ticks}
use Rattle.tui_bars.specs.Shown.{Shown}
use Rattle.tui_bars.specs.declared.plan.ChartPlan.{ChartPlan}

-- the cells of a bar, filled or not
abbrev pub bar_area : BarChartData → ChartPlan → ℕ → Rect
bar_area c plan at = record { x = at; y = plan.area.y; width = c.width; height = plan.length }

-- a bar drawn by its ticks
unfoldable pub column_layers : BarChartData → ChartPlan → ℕ → BarData → List Layer
column_layers c plan at bar =
    vertical_bar_layers c.symbols plan.area (bar_area c plan at) (patched c.bar_style bar.style) (ticks plan.greatest bar.value plan.length)

-- the last row, as wide as n bars, for the group's label
abbrev pub group_row : BarChartData → ChartPlan → ℕ → ℕ → Rect
group_row c plan at n = cells_at at (past plan.area.y (plan.area.height - 1)) (columns_of c n)

-- a group's label, if it has one
abbrev pub group_label : BarChartData → ChartPlan → ℕ → ℕ → Option LineData → List Layer
group_label c plan at n None = []
group_label c plan at n (Some label) = group_title_layers c plan.area (group_row c plan at n) label

-- the same, if labels of groups have a row
unfoldable pub group_label_layers : BarChartData → ChartPlan → Shown → List Layer
group_label_layers c plan s = if plan.group_labels then group_label c plan s.at s.count s.group.label else []

-- the row below a bar, for its label
abbrev pub label_row : BarChartData → ChartPlan → ℕ → Rect
label_row c plan at = cells_at at (past plan.area.y plan.length) c.width

-- a bar's label, if it has one, in the middle of that row
abbrev pub bar_label : BarChartData → ChartPlan → ℕ → Option LineData → List Layer
bar_label c plan at None = []
bar_label c plan at (Some label) = titled_layers c plan.area (aligned_in (label_row c plan at) Center (min (line_width false label) c.width)) label

-- the same, if labels of bars have a row
unfoldable pub label_layers : BarChartData → ChartPlan → ℕ → BarData → List Layer
label_layers c plan at bar = if plan.bar_labels then bar_label c plan at bar.label else []

-- whether a value's text is shown: it is narrower than the bar, or just as wide and the bar's last row is full
abbrev pub has_room : ℕ → ℕ → ℕ → Bool
has_room room width filled = nat_lt width room || ((width == room) && nat_le 8 filled)

-- where the text of a value starts, in the last row of the bar
abbrev pub value_place : BarChartData → ChartPlan → ℕ → List ℕ → Position
value_place c plan at text = record { x = past at ((c.width - length text) / 2); y = past plan.area.y (plan.length - 1) }

-- a value's text, if there is room for it
unfoldable pub value_text_layers : BarChartData → ChartPlan → ℕ → ℕ → List ℕ → Style → List Layer
value_text_layers c plan at filled text style =
    if has_room c.width (span_width false (raw_span text)) filled
    then set_layers plan.area (value_place c plan at text) (styled_text text style) farthest_edge else []

-- a bar's value, if it is not 0
unfoldable pub value_layers : BarChartData → ChartPlan → ℕ → BarData → List Layer
value_layers c plan at bar = if bar.value == 0 then []
    else value_text_layers c plan at (ticks plan.greatest bar.value plan.length) (value_text bar) (patched c.value_style bar.value_style)

-- a bar's label and its value
unfoldable pub texts_layers : BarChartData → ChartPlan → ℕ → BarData → List Layer
texts_layers c plan at bar = label_layers c plan at bar ++ value_layers c plan at bar
