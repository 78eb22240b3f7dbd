-- Where a rejected scene has the value that is not valid: the fields of each widget, and of the scene.
use Rattle.std.specs.Prelude.{ℕ, Option, Some, None, codes, map}
use Rattle.serde_json.specs.Data.{Data}
use Rattle.tui_json.specs.Faults as faults
use Rattle.tui_json.specs.Faults.{FaultData, WantedData, elements_fault, fault_of, given_member_fault, inside_at, member_fault, no_parts, optional_member_fault, words}
use Rattle.tui_json.specs.Named.{listed_names}
use Rattle.tui_json.specs.Members.{member, or_null}
use Rattle.tui_json.specs.Names.{directions, flexes, highlight_spacings}
use Rattle.tui_json.specs.Number.{u16_of, u64_of}
use Rattle.tui_schema.specs.Faults.{
  Finds,
  a_bar_set,
  a_date,
  a_long,
  a_symbol,
  a_text,
  an_area,
  an_array,
  block_fault,
  date_fault,
  event_fault,
  flag_fault,
  group_fault,
  line_fault,
  list_fault,
  list_item_fault,
  long_fault,
  named_fault,
  pair_of_fault,
  percent_fault,
  row_fault,
  share_fault,
  short_fault,
  span_fault,
  sparkline_bar_fault,
  style_fault,
  symbol_fault,
  table_width_fault,
  text_fault,
  wrap_fault,
}
use Rattle.tui_schema.specs.Items.Names.{widget_names, widget_of}
use Rattle.tui_schema.specs.Kinds.Area.{area_in}
use Rattle.tui_schema.specs.Kinds.Bars.{bar_set_of, group_of, sparkline_bar_of}
use Rattle.tui_schema.specs.Kinds.Line.{line_of}
use Rattle.tui_schema.specs.Kinds.ListItem.{list_item_of}
use Rattle.tui_schema.specs.Kinds.Names.{alignments, list_directions, orientations, render_directions, sizes}
use Rattle.tui_schema.specs.Kinds.StyledDate.{event_of}
use Rattle.tui_schema.specs.Kinds.Symbol.{symbol_of}
use Rattle.tui_schema.specs.Kinds.Table.{row_of}
use Rattle.tui_schema.specs.Kinds.TableWidth.{table_width_of}
use Rattle.tui_schema.specs.Scene.{item_values_of, side_of}
use Rattle.tui_schema.specs.declared.bad_field.BadField.{BadField}
use Rattle.tui_schema.specs.declared.field.Field.{Field}
use Rattle.tui_schema.specs.declared.field.Field.TheVariants as fields
use Rattle.tui_schema.specs.declared.items.widget.Widget.{Widget}
use Rattle.tui_schema.specs.declared.items.widget.Widget.TheVariants as widgets

-- ---- kinds of fields

abbrev pub a_side : WantedData
a_side = faults.number 1 1000

-- the number of columns or rows of a scene
abbrev pub side_fault : Finds
side_fault = fault_of side_of a_side no_parts

abbrev pub some_items : WantedData
some_items = faults.values 0 256 (codes "values")

abbrev pub a_widget : WantedData
a_widget = words (listed_names (map (λ entry. entry.0) widget_names))

abbrev pub widget_fault : Finds
widget_fault = fault_of widget_of a_widget no_parts

abbrev pub area_fault : Finds
area_fault = fault_of area_in an_area (elements_fault short_fault)

abbrev pub symbol_or_null_fault : Finds
symbol_or_null_fault = fault_of (or_null symbol_of) a_symbol no_parts

abbrev pub bar_set_fault : Finds
bar_set_fault = fault_of bar_set_of a_bar_set no_parts

-- ---- fields that are of one kind or another, by the widget

-- the widget of an item, if it has one
abbrev pub widget_in : Data → Option Widget
widget_in = member widget_of (codes "widget")

abbrev pub direction_fault : Option Widget → Finds
direction_fault (Some widgets.List) = optional_member_fault (named_fault list_directions) (codes "direction")
direction_fault (Some widgets.Sparkline) = optional_member_fault (named_fault render_directions) (codes "direction")
direction_fault other = optional_member_fault (named_fault directions) (codes "direction")

abbrev pub label_fault : Option Widget → Finds
label_fault (Some widgets.Gauge) = optional_member_fault span_fault (codes "label")
label_fault other = optional_member_fault line_fault (codes "label")

abbrev pub selected_fault : Option Widget → Finds
selected_fault (Some widgets.Tabs) = given_member_fault (fault_of (or_null u64_of) a_long no_parts) (codes "selected")
selected_fault other = optional_member_fault long_fault (codes "selected")

-- ---- items and scenes

-- a field that is a style; any other has no fault here
abbrev pub style_field_fault : Field → Finds
style_field_fault fields.Style d = optional_member_fault style_fault (codes "style") d
style_field_fault fields.HighlightStyle d = optional_member_fault style_fault (codes "highlight_style") d
style_field_fault fields.RowHighlightStyle d = optional_member_fault style_fault (codes "row_highlight_style") d
style_field_fault fields.ColumnHighlightStyle d = optional_member_fault style_fault (codes "column_highlight_style") d
style_field_fault fields.CellHighlightStyle d = optional_member_fault style_fault (codes "cell_highlight_style") d
style_field_fault fields.ThumbStyle d = optional_member_fault style_fault (codes "thumb_style") d
style_field_fault fields.TrackStyle d = optional_member_fault style_fault (codes "track_style") d
style_field_fault fields.BeginStyle d = optional_member_fault style_fault (codes "begin_style") d
style_field_fault fields.EndStyle d = optional_member_fault style_fault (codes "end_style") d
style_field_fault fields.GaugeStyle d = optional_member_fault style_fault (codes "gauge_style") d
style_field_fault fields.FilledStyle d = optional_member_fault style_fault (codes "filled_style") d
style_field_fault fields.UnfilledStyle d = optional_member_fault style_fault (codes "unfilled_style") d
style_field_fault fields.BarStyle d = optional_member_fault style_fault (codes "bar_style") d
style_field_fault fields.ValueStyle d = optional_member_fault style_fault (codes "value_style") d
style_field_fault fields.LabelStyle d = optional_member_fault style_fault (codes "label_style") d
style_field_fault fields.AbsentValueStyle d = optional_member_fault style_fault (codes "absent_value_style") d
style_field_fault fields.ShowSurrounding d = optional_member_fault style_fault (codes "show_surrounding") d
style_field_fault fields.ShowMonthHeader d = optional_member_fault style_fault (codes "show_month_header") d
style_field_fault fields.ShowWeekdaysHeader d = optional_member_fault style_fault (codes "show_weekdays_header") d
style_field_fault fields.DefaultStyle d = optional_member_fault style_fault (codes "default_style") d
style_field_fault other d = None

-- a field that is a symbol or a set of them; any other as in the table above
abbrev pub symbol_field_fault : Field → Finds
symbol_field_fault fields.Symbol d = member_fault a_symbol symbol_fault (codes "symbol") d
symbol_field_fault fields.HighlightSymbol d = optional_member_fault symbol_fault (codes "highlight_symbol") d
symbol_field_fault fields.Divider d = optional_member_fault symbol_fault (codes "divider") d
symbol_field_fault fields.PaddingLeft d = optional_member_fault symbol_fault (codes "padding_left") d
symbol_field_fault fields.PaddingRight d = optional_member_fault symbol_fault (codes "padding_right") d
symbol_field_fault fields.ThumbSymbol d = optional_member_fault symbol_fault (codes "thumb_symbol") d
symbol_field_fault fields.TrackSymbol d = given_member_fault symbol_or_null_fault (codes "track_symbol") d
symbol_field_fault fields.BeginSymbol d = given_member_fault symbol_or_null_fault (codes "begin_symbol") d
symbol_field_fault fields.EndSymbol d = given_member_fault symbol_or_null_fault (codes "end_symbol") d
symbol_field_fault fields.FilledSymbol d = optional_member_fault symbol_fault (codes "filled_symbol") d
symbol_field_fault fields.UnfilledSymbol d = optional_member_fault symbol_fault (codes "unfilled_symbol") d
symbol_field_fault fields.AbsentValueSymbol d = optional_member_fault symbol_fault (codes "absent_value_symbol") d
symbol_field_fault fields.BarSet d = optional_member_fault bar_set_fault (codes "bar_set") d
symbol_field_fault other d = style_field_fault other d

-- a field that is a number, true or false, or a name; any other as in the table above
abbrev pub number_field_fault : Field → Finds
number_field_fault fields.Width d = member_fault a_side side_fault (codes "width") d
number_field_fault fields.Height d = member_fault a_side side_fault (codes "height") d
number_field_fault fields.Scroll d = optional_member_fault (pair_of_fault u16_of short_fault) (codes "scroll") d
number_field_fault fields.ScrollPadding d = optional_member_fault long_fault (codes "scroll_padding") d
number_field_fault fields.Offset d = optional_member_fault long_fault (codes "offset") d
number_field_fault fields.SelectedColumn d = optional_member_fault long_fault (codes "selected_column") d
number_field_fault fields.ContentLength d = optional_member_fault long_fault (codes "content_length") d
number_field_fault fields.Position d = optional_member_fault long_fault (codes "position") d
number_field_fault fields.ViewportContentLength d = optional_member_fault long_fault (codes "viewport_content_length") d
number_field_fault fields.Max d = optional_member_fault long_fault (codes "max") d
number_field_fault fields.ColumnSpacing d = optional_member_fault short_fault (codes "column_spacing") d
number_field_fault fields.BarWidth d = optional_member_fault short_fault (codes "bar_width") d
number_field_fault fields.BarGap d = optional_member_fault short_fault (codes "bar_gap") d
number_field_fault fields.GroupGap d = optional_member_fault short_fault (codes "group_gap") d
number_field_fault fields.RepeatHighlightSymbol d = optional_member_fault flag_fault (codes "repeat_highlight_symbol") d
number_field_fault fields.UseUnicode d = optional_member_fault flag_fault (codes "use_unicode") d
number_field_fault fields.Alignment d = optional_member_fault (named_fault alignments) (codes "alignment") d
number_field_fault fields.HighlightSpacing d = optional_member_fault (named_fault highlight_spacings) (codes "highlight_spacing") d
number_field_fault fields.Flex d = optional_member_fault (named_fault flexes) (codes "flex") d
number_field_fault fields.Orientation d = optional_member_fault (named_fault orientations) (codes "orientation") d
number_field_fault fields.Size d = optional_member_fault (named_fault sizes) (codes "size") d
number_field_fault other d = symbol_field_fault other d

-- a field of an item: those that are lists, objects, or of two kinds here; any other as in the table above
unfoldable pub field_fault : Field → Finds
field_fault fields.Items d = member_fault an_array (list_fault list_item_of list_item_fault) (codes "items") d
field_fault fields.Widget d = member_fault a_widget widget_fault (codes "widget") d
field_fault fields.Area d = member_fault an_area area_fault (codes "area") d
field_fault fields.Block d = optional_member_fault block_fault (codes "block") d
field_fault fields.Text d = member_fault a_text text_fault (codes "text") d
field_fault fields.Wrap d = optional_member_fault wrap_fault (codes "wrap") d
field_fault fields.Direction d = direction_fault (widget_in d) d
field_fault fields.Selected d = selected_fault (widget_in d) d
field_fault fields.Rows d = member_fault an_array (list_fault row_of row_fault) (codes "rows") d
field_fault fields.Header d = optional_member_fault row_fault (codes "header") d
field_fault fields.Footer d = optional_member_fault row_fault (codes "footer") d
field_fault fields.Widths d = optional_member_fault (list_fault table_width_of table_width_fault) (codes "widths") d
field_fault fields.Titles d = member_fault an_array (list_fault line_of line_fault) (codes "titles") d
field_fault fields.Ratio d = optional_member_fault share_fault (codes "ratio") d
field_fault fields.Percent d = optional_member_fault percent_fault (codes "percent") d
field_fault fields.Label d = label_fault (widget_in d) d
field_fault fields.Groups d = member_fault an_array (list_fault group_of group_fault) (codes "groups") d
field_fault fields.Data d = member_fault an_array (list_fault sparkline_bar_of sparkline_bar_fault) (codes "data") d
field_fault fields.Date d = member_fault a_date date_fault (codes "date") d
field_fault fields.Events d = optional_member_fault (list_fault event_of event_fault) (codes "events") d
field_fault other d = number_field_fault other d

-- a field of a scene itself
abbrev pub scene_field_fault : Field → Finds
scene_field_fault fields.Items d = member_fault some_items (fault_of item_values_of some_items no_parts) (codes "items") d
scene_field_fault f d = field_fault f d

-- the value that is not valid
abbrev pub scene_fault : BadField → Finds
scene_fault bad d = by_item bad.item
  where
    by_item : Option ℕ → Option FaultData
    by_item None = scene_field_fault bad.field d
    by_item (Some i) = inside_at (codes "items") i (field_fault bad.field) d
