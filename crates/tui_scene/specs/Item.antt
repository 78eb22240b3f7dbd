-- The widgets of a scene as drawings, each with its area, and the law that drawing again keeps their states.
use Rattle.std.specs.Prelude.{◌≡◌, refl, ℕ, Bool, true, false, List}
use Rattle.std.proofs.Common.{ap}
use Rattle.tui_cells.specs.declared.rect.Rect.{Rect}
use Rattle.tui_cells.specs.Rect.{intersection_of, is_empty}
use Rattle.tui_cells.specs.Buffer.{Screen}
use Rattle.tui_cells.specs.Drawing.{Drawing, StatefulDrawing}
use Rattle.tui_cells.specs.Layers.{Layer, StayIn}
use Rattle.tui_bars.specs.BarChart.{BarChartData, bar_chart_data}
use Rattle.tui_bars.specs.Drawing.{bar_chart_drawing, gauge_drawing, line_gauge_drawing, sparkline_drawing}
use Rattle.tui_bars.specs.Gauge.{GaugeData, gauge_data}
use Rattle.tui_bars.specs.LineGauge.{LineGaugeData, line_gauge_data}
use Rattle.tui_bars.specs.Sparkline.{SparklineData, sparkline_data}
use Rattle.tui_calendar.specs.CalendarEventStore.{DatedStyles, dated_styles, style_or_none}
use Rattle.tui_calendar.specs.Drawing.{monthly_drawing}
use Rattle.tui_calendar.specs.Monthly.{MonthlyData, monthly_data}
use Rattle.tui_frames.specs.Block.{BlockData, block_data}
use Rattle.tui_frames.specs.Clear.{clear_drawing}
use Rattle.tui_frames.specs.Drawing.{block_drawing}
use Rattle.tui_frames.specs.Fill.{FillData, fill_data, fill_drawing}
use Rattle.tui_lists.specs.List.{ListData, list_data}
use Rattle.tui_lists.specs.ListDrawing.{list_moving}
use Rattle.tui_lists.specs.Scrollbar.{ScrollbarData, scrollbar_data}
use Rattle.tui_lists.specs.ScrollbarStrokes.{scrollbar_moving}
use Rattle.tui_lists.specs.Tabs.{TabsData, tabs_data}
use Rattle.tui_lists.specs.TabsDrawing.{tabs_drawing}
use Rattle.tui_lists.specs.declared.list.state.ListState.{ListState}
use Rattle.tui_lists.specs.declared.scrollbar.state.ScrollbarState.{ScrollbarState}
use Rattle.tui_para.specs.Drawing.{paragraph_drawing}
use Rattle.tui_para.specs.Logo.{logo_drawing}
use Rattle.tui_para.specs.Paragraph.{ParagraphData, paragraph_data}
use Rattle.tui_para.specs.declared.size.Size.{Size}
use Rattle.tui_table.specs.Drawing.{table_moving}
use Rattle.tui_table.specs.Table.{TableData, table_data}
use Rattle.tui_table.specs.declared.state.TableState.{TableState}
use Rattle.tui_scene.specs.declared.item.Item.{Item}
use Rattle.tui_scene.specs.declared.item.Item.TheVariants as items
use Rattle.tui_scene.specs.declared.placed.Placed.{Placed}

-- a widget without a state, as plain data
pub data StatelessData : Type 0 where
  clear : StatelessData
  fill : FillData → StatelessData
  block : BlockData → StatelessData
  paragraph : ParagraphData → StatelessData
  tabs : TabsData → StatelessData
  gauge : GaugeData → StatelessData
  line_gauge : LineGaugeData → StatelessData
  bar_chart : BarChartData → StatelessData
  sparkline : SparklineData → StatelessData
  -- a month, with the dates that have their own style
  monthly : DatedStyles → MonthlyData → StatelessData
  logo : Size → StatelessData

-- a widget, with its state if it has one
pub data ItemData : Type 0 where
  stateless : StatelessData → ItemData
  list : ListData → ListState → ItemData
  table : TableData → TableState → ItemData
  scrollbar : ScrollbarData → ScrollbarState → ItemData

-- a widget of the code with its state, as plain data
abbrev pub item_data : Item → ItemData
item_data (items.Clear _) = stateless clear
item_data (items.Fill f) = stateless (fill (fill_data f))
item_data (items.Block b) = stateless (block (block_data b))
item_data (items.Paragraph p) = stateless (paragraph (paragraph_data p))
item_data (items.List l s) = list (list_data l) s
item_data (items.Table t s) = table (table_data t) s
item_data (items.Tabs t) = stateless (tabs (tabs_data t))
item_data (items.Scrollbar b s) = scrollbar (scrollbar_data b) s
item_data (items.Gauge g) = stateless (gauge (gauge_data g))
item_data (items.LineGauge g) = stateless (line_gauge (line_gauge_data g))
item_data (items.BarChart c) = stateless (bar_chart (bar_chart_data c))
item_data (items.Sparkline s) = stateless (sparkline (sparkline_data s))
item_data (items.Monthly m) = stateless (monthly (dated_styles m.events) (monthly_data m))
item_data (items.Logo l) = stateless (logo l.size)

-- a list with this state
abbrev pub with_list_state : ListState → ItemData → ItemData
with_list_state after (list l s) = list l after
with_list_state after item = item

-- a table with this state
abbrev pub with_table_state : TableState → ItemData → ItemData
with_table_state after (table t s) = table t after
with_table_state after item = item

-- a scrollbar with this state
abbrev pub with_scrollbar_state : ScrollbarState → ItemData → ItemData
with_scrollbar_state after (scrollbar b s) = scrollbar b after
with_scrollbar_state after item = item

-- a widget without a state as a drawing
abbrev pub stateless_drawing : StatelessData → Drawing
stateless_drawing clear = clear_drawing
stateless_drawing (fill f) = fill_drawing f
stateless_drawing (block b) = block_drawing b
stateless_drawing (paragraph p) = paragraph_drawing p
stateless_drawing (tabs t) = tabs_drawing t
stateless_drawing (gauge g) = gauge_drawing g
stateless_drawing (line_gauge g) = line_gauge_drawing g
stateless_drawing (bar_chart c) = bar_chart_drawing c
stateless_drawing (sparkline s) = sparkline_drawing s
stateless_drawing (monthly dates m) = monthly_drawing (style_or_none dates) m
stateless_drawing (logo size) = logo_drawing size

-- a widget of a scene as a drawing, over its clip
pub record ItemDrawing : Type 1 where
  pub layers : Rect → List Layer
  pub footprint : Rect → ℕ → ℕ → Bool
  -- the widget with the state that drawing it leaves
  pub after : Rect → ItemData
  -- what is visible after the drawing, by the widget with its new state
  pub shows : ItemData → Rect → Screen → Screen → Type 0
  pub allocation_free : Type 0
  pub stays : (clip : Rect) → StayIn (footprint clip) (layers clip)
  pub nowhere : (clip : Rect) → is_empty clip ≡ true → (x y : ℕ) → footprint clip x y ≡ false

-- a widget without a state, which drawing does not change
abbrev pub without_state : ItemData → Drawing → ItemDrawing
without_state item d = record {
  layers = d.layers;
  footprint = d.footprint;
  after = λ clip. item;
  shows = λ new clip before after. (new ≡ item) × d.shows clip before after;
  allocation_free = d.allocation_free;
  stays = d.stays;
  nowhere = d.nowhere;
}

-- a widget with a state; drawing changes only the state
abbrev pub with_state : {S : Type 0} (item : S → ItemData) → StatefulDrawing S → S → ItemDrawing
with_state {S = S} item m s = record {
  layers = m.layers s;
  footprint = m.footprint;
  after = λ clip. item (m.after clip s);
  shows = λ new clip before after. (t : S) × (new ≡ item t) × m.shows s t clip before after;
  allocation_free = m.allocation_free;
  stays = m.stays s;
  nowhere = m.nowhere;
}

-- a widget as a drawing, with its state if it has one
abbrev pub item_drawing : ItemData → ItemDrawing
item_drawing (stateless w) = without_state (stateless w) (stateless_drawing w)
item_drawing (list l s) = with_state (list l) (list_moving l) s
item_drawing (table t s) = with_state (table t) (table_moving t) s
item_drawing (scrollbar b s) = with_state (scrollbar b) (scrollbar_moving b) s

-- a widget with an empty clip keeps its state; drawing a widget again over the same clip keeps the state of the first
-- drawing
pub record IsStable (item : ItemData) (clip : Rect) : Type 0 where
  pub rests : is_empty clip ≡ true → (item_drawing item).after clip ≡ item
  pub is_idempotent : (item_drawing ((item_drawing item).after clip)).after clip ≡ (item_drawing item).after clip

-- each widget has this property
pub item_is_stable : (item : ItemData) (clip : Rect) → IsStable item clip
item_is_stable (stateless w) clip = record { rests = λ e. refl; is_idempotent = refl }
item_is_stable (list l s) clip = record {
  rests = λ e. ap (list l) ((list_moving l).rests s clip e);
  is_idempotent = ap (list l) ((list_moving l).is_idempotent s clip);
}
item_is_stable (table t s) clip = record {
  rests = λ e. ap (table t) ((table_moving t).rests s clip e);
  is_idempotent = ap (table t) ((table_moving t).is_idempotent s clip);
}
item_is_stable (scrollbar b s) clip = record { rests = λ e. refl; is_idempotent = refl }

-- a widget and its area
pub record PlacedData : Type 0 where
  pub area : Rect
  pub item : ItemData

-- a widget of the code and its area, as plain data
abbrev pub placed_data : Placed → PlacedData
placed_data p = record { area = p.area; item = item_data p.item }

-- the strokes of a widget in a buffer with this area
abbrev pub placed_layers : Rect → PlacedData → List Layer
placed_layers area p = (item_drawing p.item).layers (intersection_of p.area area)

-- the positions of a buffer with this area that a widget may change
abbrev pub placed_footprint : Rect → PlacedData → ℕ → ℕ → Bool
placed_footprint area p = (item_drawing p.item).footprint (intersection_of p.area area)

-- the widget with the state that drawing it leaves
abbrev pub placed_after : Rect → PlacedData → PlacedData
placed_after area p = record { area = p.area; item = (item_drawing p.item).after (intersection_of p.area area) }

-- a widget that is drawn without allocating in a buffer with this area: it never allocates, or it is outside the area
abbrev pub IsAllocationFreePlaced : Rect → PlacedData → Type 0
IsAllocationFreePlaced area p = is_empty (intersection_of p.area area) ≡ false → (item_drawing p.item).allocation_free
