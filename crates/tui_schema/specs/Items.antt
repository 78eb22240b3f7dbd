-- Items: their fields in order. The first test that fails rejects the item.
pub mod Block
pub mod ChartFields
pub mod Fill
pub mod Frame
pub mod GaugeFields
pub mod ListFields
pub mod Logo
pub mod MonthlyFields
pub mod ScrollbarFields
pub mod TableFields
pub mod TabsFields
pub mod Paragraph
pub mod Names
use Rattle.std.specs.Prelude.{ℕ, List, Option, Some, Result, Ok}
use Rattle.serde_json.specs.Data.{Data, Items}
use Rattle.tui_cells.specs.declared.rect.Rect.{Rect}
use Rattle.tui_scene.specs.Item.{
  ItemData,
  PlacedData,
  bar_chart,
  block,
  clear,
  fill,
  gauge,
  line_gauge,
  list,
  logo,
  monthly,
  paragraph,
  scrollbar,
  sparkline,
  stateless,
  table,
  tabs,
}
use Rattle.tui_schema.specs.declared.field.Field.TheVariants as fields
use Rattle.tui_schema.specs.declared.items.widget.Widget.{Widget}
use Rattle.tui_schema.specs.declared.items.widget.Widget.TheVariants as widgets
use Rattle.tui_schema.specs.Items.Block.{block_in}
use Rattle.tui_schema.specs.Items.ChartFields.{shown_chart, shown_sparkline}
use Rattle.tui_schema.specs.Items.Fill.{fill_of}
use Rattle.tui_schema.specs.Items.GaugeFields.{shown_gauge, shown_line_gauge}
use Rattle.tui_schema.specs.Items.ListFields.{shown_list}
use Rattle.tui_schema.specs.Items.Logo.{logo_of}
use Rattle.tui_schema.specs.Items.MonthlyFields.{shown_monthly}
use Rattle.tui_schema.specs.Items.Paragraph.{paragraph_of}
use Rattle.tui_schema.specs.Items.Names.{widget_of}
use Rattle.tui_schema.specs.Items.ScrollbarFields.{shown_scrollbar}
use Rattle.tui_schema.specs.Items.TableFields.{shown_table}
use Rattle.tui_schema.specs.Items.TabsFields.{shown_tabs}
use Rattle.tui_schema.specs.Kinds.Area.{area_in}
use Rattle.tui_json.specs.Refusals.{◌>>=◌, numbered}
use Rattle.tui_schema.specs.Refusals.{required}
use Rattle.tui_schema.specs.declared.bad_field.BadField.{BadField}

-- the fields of a widget
abbrev pub shown_of : Widget → Option ℕ → Data → Result ItemData BadField
shown_of widgets.Clear i d = Ok (stateless clear)
shown_of widgets.Fill i d = do
  x ← fill_of i d
  Ok (stateless (fill x))
shown_of widgets.Block i d = do
  x ← block_in i d
  Ok (stateless (block x))
shown_of widgets.Paragraph i d = do
  x ← paragraph_of i d
  Ok (stateless (paragraph x))
shown_of widgets.List i d = do
  x ← shown_list i d
  Ok (list x.0 x.1)
shown_of widgets.Table i d = do
  x ← shown_table i d
  Ok (table x.0 x.1)
shown_of widgets.Tabs i d = do
  x ← shown_tabs i d
  Ok (stateless (tabs x))
shown_of widgets.Scrollbar i d = do
  x ← shown_scrollbar i d
  Ok (scrollbar x.0 x.1)
shown_of widgets.Gauge i d = do
  x ← shown_gauge i d
  Ok (stateless (gauge x))
shown_of widgets.LineGauge i d = do
  x ← shown_line_gauge i d
  Ok (stateless (line_gauge x))
shown_of widgets.BarChart i d = do
  x ← shown_chart i d
  Ok (stateless (bar_chart x))
shown_of widgets.Sparkline i d = do
  x ← shown_sparkline i d
  Ok (stateless (sparkline x))
shown_of widgets.Monthly i d = do
  x ← shown_monthly i d
  Ok (stateless (monthly x.0 x.1))
shown_of widgets.Logo i d = do
  size ← logo_of i d
  Ok (stateless (logo size))

-- the item with number i of a scene
unfoldable pub placed_of : ℕ → Data → Result PlacedData BadField
placed_of i d = do
  widget ← required widget_of (Some i) fields.Widget d
  area ← required area_in (Some i) fields.Area d
  shown ← shown_of widget (Some i) d
  Ok (record { area = area; item = shown })

-- the item with this number, whose area is given elsewhere: the same tests without that of `area`
unfoldable pub item_without_area : ℕ → Data → Result ItemData BadField
item_without_area i d = do
  widget ← required widget_of (Some i) fields.Widget d
  shown_of widget (Some i) d

-- the same in this area
unfoldable pub item_of : Rect → ℕ → Data → Result PlacedData BadField
item_of area i d = do
  item ← item_without_area i d
  Ok (record { area = area; item = item })

-- the items of a scene from number i on
abbrev pub items_of : ℕ → Items → Result (List PlacedData) BadField
items_of = numbered placed_of
