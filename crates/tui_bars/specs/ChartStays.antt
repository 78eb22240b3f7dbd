-- A law that the drawing of a bar chart carries: its strokes stay in its area.
use Rattle.std.specs.Prelude.{ℕ, Bool, true, false, List, [], ◌∷◌, flat_map, Option, None, Some, if◌then◌else◌}
use Rattle.tui_cells.specs.declared.rect.Rect.{Rect}
use Rattle.tui_cells.specs.Cell.{set_style}
use Rattle.tui_cells.specs.Layers.{Layer, StayIn}
use Rattle.tui_cells.specs.Rect.{covers, intersection_of}
use Rattle.tui_cells.specs.Stays.{StayIn-append, StayIn-none, StayIn-stroke}
use Rattle.tui_cells.proofs.Regions.{StayIn-wider, outside_both}
use Rattle.tui_layout.specs.declared.direction.Direction.{Direction}
use Rattle.tui_layout.specs.declared.direction.Direction.TheVariants.{Horizontal, Vertical}
use Rattle.tui_text.proofs.RowStays.{row_stays}
use Rattle.tui_text.proofs.SetStays.{set_stays}
use Rattle.tui_text.specs.Line.{LineData}
use Rattle.tui_bars.specs.BarChart.{BarChartData, BarData}
use Rattle.tui_bars.specs.ChartStrokes.{bar_chart_layers, bar_layers, directed_layers, group_layers, horizontal_plan, vertical_plan, walk_layers}
use Rattle.tui_bars.specs.Labels.{alignment_of, titled_layers}
use Rattle.tui_bars.specs.HorizontalBars.{beyond_layers, group_row, group_row_layers, left_label, left_layers, horizontal_bar_layers, row_value_layers, strip_layers}
use Rattle.tui_bars.specs.Shown.{PlacedBar, Shown, bars_of, shown_groups}
use Rattle.tui_bars.specs.Stays.{fill_stays, vertical_bar_stays, then_stays}
use Rattle.tui_bars.specs.VerticalBars.{bar_label, column_layers, group_label, group_label_layers, label_layers, texts_layers, value_layers, value_text_layers}
use Rattle.tui_bars.specs.declared.plan.Pass.{Pass}
use Rattle.tui_bars.specs.declared.plan.Pass.TheVariants.{Columns, Texts, Rows}
use Rattle.tui_bars.specs.declared.plan.ChartPlan.{ChartPlan}

each_stays : {A : Type 0} {r : ℕ → ℕ → Bool} (f : A → List Layer) → ((x : A) → StayIn r (f x)) → (xs : List A) → StayIn r (flat_map f xs)
each_stays f h [] = StayIn-none
each_stays f h (x ∷ xs) = StayIn-append (h x) (each_stays f h xs)

else_stays : {r : ℕ → ℕ → Bool} {ls : List Layer} (b : Bool) → StayIn r ls → StayIn r (if b then [] else ls)
else_stays true p = StayIn-none
else_stays false p = p

titled_stays : (c : BarChartData) (clip part : Rect) (label : LineData) → StayIn (covers clip) (titled_layers c clip part label)
unfolding titled_layers
titled_stays c clip part label = StayIn-append
    (StayIn-stroke (covers (intersection_of clip part)) (set_style c.label_style) (outside_both clip part))
    (StayIn-wider (outside_both clip part) (row_stays (intersection_of clip part) (alignment_of label) label))

column_stays : (c : BarChartData) (plan : ChartPlan) (at : ℕ) (bar : BarData) → StayIn (covers plan.area) (column_layers c plan at bar)
unfolding column_layers
column_stays c plan at bar = vertical_bar_stays c.symbols plan.area _ _ _

label_stays : (c : BarChartData) (plan : ChartPlan) (at : ℕ) (bar : BarData) → StayIn (covers plan.area) (label_layers c plan at bar)
unfolding label_layers
label_stays c plan at bar = then_stays plan.bar_labels (some bar.label)
  where
    some : (label : Option LineData) → StayIn (covers plan.area) (bar_label c plan at label)
    some None = StayIn-none
    some (Some label) = titled_stays c plan.area _ label

value_stays : (c : BarChartData) (plan : ChartPlan) (at : ℕ) (bar : BarData) → StayIn (covers plan.area) (value_layers c plan at bar)
unfolding value_layers value_text_layers
value_stays c plan at bar = else_stays _ (then_stays _ (set_stays plan.area _ _ _))

texts_stay : (c : BarChartData) (plan : ChartPlan) (at : ℕ) (bar : BarData) → StayIn (covers plan.area) (texts_layers c plan at bar)
unfolding texts_layers
texts_stay c plan at bar = StayIn-append (label_stays c plan at bar) (value_stays c plan at bar)

group_label_stays : (c : BarChartData) (plan : ChartPlan) (s : Shown) → StayIn (covers plan.area) (group_label_layers c plan s)
unfolding group_label_layers
group_label_stays c plan s = then_stays plan.group_labels (some s.group.label)
  where
    some : (label : Option LineData) → StayIn (covers plan.area) (group_label c plan s.at s.count label)
    some None = StayIn-none
    some (Some label) = titled_stays c plan.area _ label

left_stays : (plan : ChartPlan) (middle : ℕ) (bar : BarData) → StayIn (covers plan.area) (left_layers plan middle bar)
unfolding left_layers
left_stays plan middle bar = some bar.label
  where
    some : (label : Option LineData) → StayIn (covers plan.area) (left_label plan middle label)
    some None = StayIn-none
    some (Some label) = set_stays plan.area _ _ _

row_stays_in : (c : BarChartData) (plan : ChartPlan) (at : ℕ) (bar : BarData) → StayIn (covers plan.area) (horizontal_bar_layers c plan at bar)
unfolding horizontal_bar_layers strip_layers row_value_layers beyond_layers
row_stays_in c plan at bar =
    StayIn-append (StayIn-append (StayIn-append (fill_stays plan.area _ _ _) (fill_stays plan.area _ _ _)) (left_stays plan _ bar))
    (StayIn-append (set_stays plan.area _ _ _) (then_stays _ (set_stays plan.area _ _ _)))

group_row_stays : (c : BarChartData) (plan : ChartPlan) (s : Shown) → StayIn (covers plan.area) (group_row_layers c plan s)
unfolding group_row_layers
group_row_stays c plan s = then_stays _ (some s.group.label)
  where
    some : (label : Option LineData) → StayIn (covers plan.area) (group_row c plan s.at s.count label)
    some None = StayIn-none
    some (Some label) = titled_stays c plan.area _ label

bar_stays : (c : BarChartData) (plan : ChartPlan) (pass : Pass) (p : PlacedBar) → StayIn (covers plan.area) (bar_layers c plan pass p)
unfolding bar_layers
bar_stays c plan Columns p = column_stays c plan p.at p.bar
bar_stays c plan Texts p = texts_stay c plan p.at p.bar
bar_stays c plan Rows p = row_stays_in c plan p.at p.bar

group_stays : (c : BarChartData) (plan : ChartPlan) (pass : Pass) (s : Shown) → StayIn (covers plan.area) (group_layers c plan pass s)
unfolding group_layers
group_stays c plan Columns s = each_stays _ (bar_stays c plan Columns) (bars_of c s)
group_stays c plan Texts s = StayIn-append (group_label_stays c plan s) (each_stays _ (bar_stays c plan Texts) (bars_of c s))
group_stays c plan Rows s = StayIn-append (each_stays _ (bar_stays c plan Rows) (bars_of c s)) (group_row_stays c plan s)

walk_stays : (c : BarChartData) (plan : ChartPlan) (pass : Pass) (at space : ℕ) → StayIn (covers plan.area) (walk_layers c plan pass at space)
walk_stays c plan pass at space = each_stays (group_layers c plan pass) (group_stays c plan pass) (shown_groups c at space c.groups)

directed_stays : (c : BarChartData) (area : Rect) (direction : Direction) → StayIn (covers area) (directed_layers c area direction)
directed_stays c area Vertical = StayIn-append (walk_stays c (vertical_plan c area) Columns _ _) (walk_stays c (vertical_plan c area) Texts _ _)
directed_stays c area Horizontal = walk_stays c (horizontal_plan c area) Rows _ _

-- a bar chart changes only cells of its area
pub bar_chart_stays : (c : BarChartData) (area : Rect) → StayIn (covers area) (bar_chart_layers c area)
unfolding bar_chart_layers
bar_chart_stays c area = else_stays _ (directed_stays c area c.direction)
