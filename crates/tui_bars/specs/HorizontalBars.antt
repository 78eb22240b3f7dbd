-- The strokes of horizontal bars.
use Rattle.std.specs.Prelude.{
  ℕ,
  zero,
  suc,
  ◌||◌,
  not,
  nat_le,
  slice_index,
  ◌+◌,
  ◌-◌,
  ◌*◌,
  ◌/◌,
  ◌&&◌,
  nat_lt,
  Bool,
  List,
  [],
  ◌++◌,
  length,
  drop,
  Option,
  None,
  Some,
  if◌then◌else◌,
}
use Rattle.tui_cells.specs.declared.rect.Rect.{Rect}
use Rattle.tui_cells.specs.declared.style.Style.{Style}
use Rattle.tui_cells.specs.Layers.{Layer}
use Rattle.tui_cells.specs.Style.{patched}
use Rattle.tui_frames.specs.Space.{past}
use Rattle.tui_text.specs.Line.{LineData}
use Rattle.tui_text.specs.Painting.{cells_at}
use Rattle.tui_text.specs.Setting.{line_spans, set_layers, styled_text}
use Rattle.tui_bars.specs.Areas.{fill_layers}
use Rattle.tui_bars.specs.BarChart.{BarChartData, BarData, value_text}
use Rattle.tui_bars.specs.Labels.{group_title_layers}
use Rattle.tui_bars.specs.Levels.{ticks}
use Rattle.tui_bars.specs.Shown.{Shown}
use Rattle.tui_bars.specs.declared.plan.ChartPlan.{ChartPlan}

-- how many columns of a bar are filled
abbrev pub filled_of : ChartPlan → BarData → ℕ
filled_of plan bar = ticks plan.greatest bar.value plan.length / 8

-- the filled cells and the others
unfoldable pub strip_layers : BarChartData → ChartPlan → ℕ → ℕ → Style → List Layer
strip_layers c plan at filled style =
    fill_layers plan.area (record { x = plan.start; y = at; width = filled; height = c.width }) c.symbols.full style
    ++ fill_layers plan.area (record { x = past plan.start filled; y = at; width = plan.length - filled; height = c.width }) c.symbols.empty style

-- the row of a bar's label and value
abbrev pub middle_of : BarChartData → ℕ → ℕ
middle_of c at = past at (c.width / 2)

-- the label, if there is one, at the left
abbrev pub left_label : ChartPlan → ℕ → Option LineData → List Layer
left_label plan middle None = []
left_label plan middle (Some label) = set_layers plan.area (record { x = plan.area.x; y = middle }) (line_spans label) plan.labels

-- the label of a bar, if it has one
unfoldable pub left_layers : ChartPlan → ℕ → BarData → List Layer
left_layers plan middle bar = left_label plan middle bar.label

-- whether a character of the text starts at a byte, or the text ends there
abbrev pub is_char_start : List ℕ → ℕ → Bool
is_char_start text i = nat_le (length text) i || not (nat_lt 127 (slice_index text i) && nat_lt (slice_index text i) 192)

-- the first such byte from i on, among n + 1 bytes
abbrev pub next_char_start : List ℕ → ℕ → ℕ → ℕ
next_char_start text i zero = i
next_char_start text i (suc n) = if is_char_start text i then i else next_char_start text (i + 1) n

-- the first such byte from `place` on
unfoldable pub char_start_from : ℕ → List ℕ → ℕ
char_start_from place text = next_char_start text place (length text - place)

-- The text from byte k on, k columns after the start of the bar. Bytes and columns are counted alike: k is the first
-- byte at or after the filled columns at which a character starts.
abbrev pub rest_layers : ChartPlan → ℕ → ℕ → List ℕ → Style → List Layer
rest_layers plan middle k text style = set_layers plan.area (record { x = past plan.start k; y = middle })
    (styled_text (drop k text) style) (plan.length - k)

-- the part of the text past the filled cells, if there is one
unfoldable pub beyond_layers : ChartPlan → ℕ → ℕ → List ℕ → Style → List Layer
beyond_layers plan middle filled text style =
    if nat_lt filled (length text) then rest_layers plan middle (char_start_from filled text) text style else []

-- the start of a value's text, over the filled cells
abbrev pub within_layers : ChartPlan → ℕ → ℕ → List ℕ → Style → List Layer
within_layers plan middle filled text style = set_layers plan.area (record { x = plan.start; y = middle }) (styled_text text style) filled

-- a value's text: its start over the filled cells, then what is past them
unfoldable pub row_value_layers : ChartPlan → ℕ → ℕ → List ℕ → Style → Style → List Layer
row_value_layers plan middle filled text value_style style =
    within_layers plan middle filled text value_style ++ beyond_layers plan middle filled text style

-- a bar with its label and value
unfoldable pub horizontal_bar_layers : BarChartData → ChartPlan → ℕ → BarData → List Layer
horizontal_bar_layers c plan at bar =
    strip_layers c plan at (filled_of plan bar) (patched c.bar_style bar.style)
    ++ left_layers plan (middle_of c at) bar
    ++ row_value_layers plan (middle_of c at) (filled_of plan bar) (value_text bar)
    (patched c.value_style bar.value_style) (patched c.bar_style bar.style)

-- the row below n bars, in which the group's label is drawn if there is a gap; if it is outside the area it has no
-- cells
abbrev pub gap_row : BarChartData → ChartPlan → ℕ → ℕ → Rect
gap_row c plan at n = cells_at plan.start (past at (n * (c.width + c.gap) - c.gap)) plan.length

-- a group's label in that row, if it has one
abbrev pub group_row : BarChartData → ChartPlan → ℕ → ℕ → Option LineData → List Layer
group_row c plan at n None = []
group_row c plan at n (Some label) = group_title_layers c plan.area (gap_row c plan at n) label

-- the same, if there is a gap between groups
unfoldable pub group_row_layers : BarChartData → ChartPlan → Shown → List Layer
group_row_layers c plan s = if nat_lt 0 c.group_gap then group_row c plan s.at s.count s.group.label else []
