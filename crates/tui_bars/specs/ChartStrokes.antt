-- The strokes of a bar chart: passes over its groups and their bars.
use Rattle.std.specs.Prelude.{ℕ, ◌+◌, ◌-◌, ◌==◌, ◌&&◌, nat_le, nat_lt, false, not, List, [], ◌++◌, flat_map, if◌then◌else◌}
use Rattle.std.specs.List.{list_any}
use Rattle.tui_cells.specs.declared.rect.Rect.{Rect}
use Rattle.tui_cells.specs.Layers.{Layer}
use Rattle.tui_frames.specs.Space.{count, past}
use Rattle.tui_layout.specs.declared.direction.Direction.{Direction}
use Rattle.tui_layout.specs.declared.direction.Direction.TheVariants.{Horizontal, Vertical}
use Rattle.tui_bars.specs.BarChart.{BarChartData, greatest_of, has_bar_label, has_group_label, label_width_of}
use Rattle.tui_bars.specs.HorizontalBars.{group_row_layers, horizontal_bar_layers}
use Rattle.tui_bars.specs.Shown.{PlacedBar, Shown, bars_of, shown_groups}
use Rattle.tui_bars.specs.VerticalBars.{column_layers, group_label_layers, texts_layers}
use Rattle.tui_bars.specs.declared.plan.Pass.{Pass}
use Rattle.tui_bars.specs.declared.plan.Pass.TheVariants.{Columns, Texts, Rows}
use Rattle.tui_bars.specs.declared.plan.ChartPlan.{ChartPlan}

-- one bar in a pass
unfoldable pub bar_layers : BarChartData → ChartPlan → Pass → PlacedBar → List Layer
bar_layers c plan Columns p = column_layers c plan p.at p.bar
bar_layers c plan Texts p = texts_layers c plan p.at p.bar
bar_layers c plan Rows p = horizontal_bar_layers c plan p.at p.bar

-- a group that is shown, in a pass
unfoldable pub group_layers : BarChartData → ChartPlan → Pass → Shown → List Layer
group_layers c plan Columns s = flat_map (bar_layers c plan Columns) (bars_of c s)
group_layers c plan Texts s = group_label_layers c plan s ++ flat_map (bar_layers c plan Texts) (bars_of c s)
group_layers c plan Rows s = flat_map (bar_layers c plan Rows) (bars_of c s) ++ group_row_layers c plan s

-- one pass over the groups that are shown in this space from a place on
abbrev pub walk_layers : BarChartData → ChartPlan → Pass → ℕ → ℕ → List Layer
walk_layers c plan pass at space = flat_map (group_layers c plan pass) (shown_groups c at space c.groups)

-- the plan of a vertical chart: if there are at least two rows, labels of bars take one row below the bars, and labels
-- of groups one more if it is free
abbrev pub vertical_plan : BarChartData → Rect → ChartPlan
vertical_plan c area =
    let bars = nat_le 2 area.height && list_any has_bar_label c.groups in
    let groups = nat_le 2 area.height && (list_any has_group_label c.groups && not ((area.height == 2) && bars)) in
    record {
      area = area;
      greatest = greatest_of c;
      length = area.height - (count bars + count groups);
      bar_labels = bars;
      group_labels = groups;
      labels = 0;
      start = 0;
    }

-- the plan of a horizontal chart: the bars start after the labels and one blank column, or at the left edge without
-- labels
abbrev pub horizontal_plan : BarChartData → Rect → ChartPlan
horizontal_plan c area =
    let labels = label_width_of c in
    let margin = labels + count (nat_lt 0 labels) in
    record {
      area = area;
      greatest = greatest_of c;
      length = area.width - margin;
      bar_labels = false;
      group_labels = false;
      labels = labels;
      start = past area.x margin;
    }

-- a vertical chart draws the bars of all groups and then their labels and values; a horizontal one draws group after
-- group from the top, each with its label in the gap below it
abbrev pub directed_layers : BarChartData → Rect → Direction → List Layer
directed_layers c area Vertical =
    walk_layers c (vertical_plan c area) Columns area.x area.width ++ walk_layers c (vertical_plan c area) Texts area.x area.width
directed_layers c area Horizontal = walk_layers c (horizontal_plan c area) Rows area.y area.height

-- the strokes inside the block; if the bars have width 0, nothing is drawn
unfoldable pub bar_chart_layers : BarChartData → Rect → List Layer
bar_chart_layers c area = if c.width == 0 then [] else directed_layers c area c.direction
