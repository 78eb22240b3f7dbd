-- The steps of the fault of a field lead to what it says is there.
use Rattle.std.proofs.Common.{◌≡◌, ℕ, Option, Some, None, codes, refl}
use Rattle.serde_json.specs.Data.{Data}
use Rattle.tui_json.proofs.Leading.{leads_given_member, leads_inside_at, leads_leaf, leads_member, leads_optional_member}
use Rattle.tui_json.specs.Faults.{Leads}
use Rattle.tui_json.specs.Members.{or_null}
use Rattle.tui_json.specs.Names.{directions, flexes, highlight_spacings}
use Rattle.tui_json.specs.Number.{u16_of, u64_of}
use Rattle.tui_schema.proofs.Explained.{area_leads, bar_set_leads, block_leads, date_leads, event_leads, flag_leads, group_leads, line_leads, list_leads, list_item_leads, long_leads, named_leads, pair_leads, percent_leads, row_leads, share_leads, short_leads, span_leads, sparkline_bar_leads, style_leads, symbol_leads, table_width_leads, text_leads, widget_leads, wrap_leads}
use Rattle.tui_schema.specs.Faults.{a_date, a_long, a_symbol, a_text, an_area, an_array, block_fault, date_fault, event_fault, flag_fault, group_fault, line_fault, list_fault, list_item_fault, long_fault, named_fault, pair_of_fault, percent_fault, row_fault, share_fault, short_fault, span_fault, sparkline_bar_fault, style_fault, symbol_fault, table_width_fault, text_fault, wrap_fault}
use Rattle.tui_schema.specs.FieldFaults.{a_side, a_widget, area_fault, bar_set_fault, direction_fault, field_fault, label_fault, number_field_fault, scene_fault, scene_field_fault, selected_fault, side_fault, style_field_fault, symbol_field_fault, some_items, symbol_or_null_fault, widget_fault, widget_in}
use Rattle.tui_schema.specs.Kinds.Bars.{group_of, sparkline_bar_of}
use Rattle.tui_schema.specs.Kinds.Line.{line_of}
use Rattle.tui_schema.specs.Kinds.ListItem.{list_item_of}
use Rattle.tui_schema.specs.Kinds.Names.{alignments, list_directions, orientations, render_directions, sizes}
use Rattle.tui_schema.specs.Kinds.StyledDate.{event_of}
use Rattle.tui_schema.specs.Kinds.Symbol.{symbol_of}
use Rattle.tui_schema.specs.Kinds.Table.{row_of}
use Rattle.tui_schema.specs.Kinds.TableWidth.{table_width_of}
use Rattle.tui_schema.specs.Scene.{item_values_of, side_of}
use Rattle.tui_schema.specs.declared.bad_field.BadField.{BadField}
use Rattle.tui_schema.specs.declared.field.Field.{Field}
use Rattle.tui_schema.specs.declared.field.Field.TheVariants as fields
use Rattle.tui_schema.specs.declared.items.widget.Widget.{Widget}
use Rattle.tui_schema.specs.declared.items.widget.Widget.TheVariants as widgets

-- ---- kinds of fields

side_leads : (d : Data) → Leads (side_fault d) d
side_leads = leads_leaf side_of a_side

symbol_or_null_leads : (d : Data) → Leads (symbol_or_null_fault d) d
symbol_or_null_leads = leads_leaf (or_null symbol_of) a_symbol

-- ---- fields that depend on the widget

direction_leads : (widget : Option Widget) (d : Data) → Leads (direction_fault widget d) d
direction_leads (Some widgets.List) d = leads_optional_member (named_fault list_directions) (codes "direction") d (named_leads list_directions)
direction_leads (Some widgets.Sparkline) d =
    leads_optional_member (named_fault render_directions) (codes "direction") d (named_leads render_directions)
direction_leads other d = leads_optional_member (named_fault directions) (codes "direction") d (named_leads directions)

label_leads : (widget : Option Widget) (d : Data) → Leads (label_fault widget d) d
label_leads (Some widgets.Gauge) d = leads_optional_member span_fault (codes "label") d span_leads
label_leads other d = leads_optional_member line_fault (codes "label") d line_leads

selected_leads : (widget : Option Widget) (d : Data) → Leads (selected_fault widget d) d
selected_leads (Some widgets.Tabs) d = leads_given_member _ (codes "selected") d (leads_leaf (or_null u64_of) a_long)
selected_leads other d = leads_optional_member long_fault (codes "selected") d long_leads

-- ---- fields of items and of scenes

style_field_leads : (f : Field) (d : Data) → Leads (style_field_fault f d) d
style_field_leads fields.Style d = leads_optional_member style_fault (codes "style") d style_leads
style_field_leads fields.HighlightStyle d = leads_optional_member style_fault (codes "highlight_style") d style_leads
style_field_leads fields.RowHighlightStyle d = leads_optional_member style_fault (codes "row_highlight_style") d style_leads
style_field_leads fields.ColumnHighlightStyle d = leads_optional_member style_fault (codes "column_highlight_style") d style_leads
style_field_leads fields.CellHighlightStyle d = leads_optional_member style_fault (codes "cell_highlight_style") d style_leads
style_field_leads fields.ThumbStyle d = leads_optional_member style_fault (codes "thumb_style") d style_leads
style_field_leads fields.TrackStyle d = leads_optional_member style_fault (codes "track_style") d style_leads
style_field_leads fields.BeginStyle d = leads_optional_member style_fault (codes "begin_style") d style_leads
style_field_leads fields.EndStyle d = leads_optional_member style_fault (codes "end_style") d style_leads
style_field_leads fields.GaugeStyle d = leads_optional_member style_fault (codes "gauge_style") d style_leads
style_field_leads fields.FilledStyle d = leads_optional_member style_fault (codes "filled_style") d style_leads
style_field_leads fields.UnfilledStyle d = leads_optional_member style_fault (codes "unfilled_style") d style_leads
style_field_leads fields.BarStyle d = leads_optional_member style_fault (codes "bar_style") d style_leads
style_field_leads fields.ValueStyle d = leads_optional_member style_fault (codes "value_style") d style_leads
style_field_leads fields.LabelStyle d = leads_optional_member style_fault (codes "label_style") d style_leads
style_field_leads fields.AbsentValueStyle d = leads_optional_member style_fault (codes "absent_value_style") d style_leads
style_field_leads fields.ShowSurrounding d = leads_optional_member style_fault (codes "show_surrounding") d style_leads
style_field_leads fields.ShowMonthHeader d = leads_optional_member style_fault (codes "show_month_header") d style_leads
style_field_leads fields.ShowWeekdaysHeader d = leads_optional_member style_fault (codes "show_weekdays_header") d style_leads
style_field_leads fields.DefaultStyle d = leads_optional_member style_fault (codes "default_style") d style_leads
style_field_leads other d = tt

symbol_field_leads : (f : Field) (d : Data) → Leads (symbol_field_fault f d) d
symbol_field_leads fields.Symbol d = leads_member a_symbol symbol_fault (codes "symbol") d symbol_leads
symbol_field_leads fields.HighlightSymbol d = leads_optional_member symbol_fault (codes "highlight_symbol") d symbol_leads
symbol_field_leads fields.Divider d = leads_optional_member symbol_fault (codes "divider") d symbol_leads
symbol_field_leads fields.PaddingLeft d = leads_optional_member symbol_fault (codes "padding_left") d symbol_leads
symbol_field_leads fields.PaddingRight d = leads_optional_member symbol_fault (codes "padding_right") d symbol_leads
symbol_field_leads fields.ThumbSymbol d = leads_optional_member symbol_fault (codes "thumb_symbol") d symbol_leads
symbol_field_leads fields.TrackSymbol d = leads_given_member symbol_or_null_fault (codes "track_symbol") d symbol_or_null_leads
symbol_field_leads fields.BeginSymbol d = leads_given_member symbol_or_null_fault (codes "begin_symbol") d symbol_or_null_leads
symbol_field_leads fields.EndSymbol d = leads_given_member symbol_or_null_fault (codes "end_symbol") d symbol_or_null_leads
symbol_field_leads fields.FilledSymbol d = leads_optional_member symbol_fault (codes "filled_symbol") d symbol_leads
symbol_field_leads fields.UnfilledSymbol d = leads_optional_member symbol_fault (codes "unfilled_symbol") d symbol_leads
symbol_field_leads fields.AbsentValueSymbol d = leads_optional_member symbol_fault (codes "absent_value_symbol") d symbol_leads
symbol_field_leads fields.BarSet d = leads_optional_member bar_set_fault (codes "bar_set") d bar_set_leads
symbol_field_leads other d = style_field_leads other d

number_field_leads : (f : Field) (d : Data) → Leads (number_field_fault f d) d
number_field_leads fields.Width d = leads_member a_side side_fault (codes "width") d side_leads
number_field_leads fields.Height d = leads_member a_side side_fault (codes "height") d side_leads
number_field_leads fields.Scroll d =
    leads_optional_member (pair_of_fault u16_of short_fault) (codes "scroll") d (λ m. pair_leads u16_of short_fault m short_leads)
number_field_leads fields.ScrollPadding d = leads_optional_member long_fault (codes "scroll_padding") d long_leads
number_field_leads fields.Offset d = leads_optional_member long_fault (codes "offset") d long_leads
number_field_leads fields.SelectedColumn d = leads_optional_member long_fault (codes "selected_column") d long_leads
number_field_leads fields.ContentLength d = leads_optional_member long_fault (codes "content_length") d long_leads
number_field_leads fields.Position d = leads_optional_member long_fault (codes "position") d long_leads
number_field_leads fields.ViewportContentLength d = leads_optional_member long_fault (codes "viewport_content_length") d long_leads
number_field_leads fields.Max d = leads_optional_member long_fault (codes "max") d long_leads
number_field_leads fields.ColumnSpacing d = leads_optional_member short_fault (codes "column_spacing") d short_leads
number_field_leads fields.BarWidth d = leads_optional_member short_fault (codes "bar_width") d short_leads
number_field_leads fields.BarGap d = leads_optional_member short_fault (codes "bar_gap") d short_leads
number_field_leads fields.GroupGap d = leads_optional_member short_fault (codes "group_gap") d short_leads
number_field_leads fields.RepeatHighlightSymbol d = leads_optional_member flag_fault (codes "repeat_highlight_symbol") d flag_leads
number_field_leads fields.UseUnicode d = leads_optional_member flag_fault (codes "use_unicode") d flag_leads
number_field_leads fields.Alignment d = leads_optional_member (named_fault alignments) (codes "alignment") d (named_leads alignments)
number_field_leads fields.HighlightSpacing d =
    leads_optional_member (named_fault highlight_spacings) (codes "highlight_spacing") d (named_leads highlight_spacings)
number_field_leads fields.Flex d = leads_optional_member (named_fault flexes) (codes "flex") d (named_leads flexes)
number_field_leads fields.Orientation d = leads_optional_member (named_fault orientations) (codes "orientation") d (named_leads orientations)
number_field_leads fields.Size d = leads_optional_member (named_fault sizes) (codes "size") d (named_leads sizes)
number_field_leads other d = symbol_field_leads other d

pub item_leads : (f : Field) (d : Data) → Leads (field_fault f d) d
unfolding field_fault
item_leads fields.Items d =
    leads_member an_array (list_fault list_item_of list_item_fault) (codes "items") d
    (λ m. list_leads list_item_of list_item_fault m list_item_leads)
item_leads fields.Widget d = leads_member a_widget widget_fault (codes "widget") d widget_leads
item_leads fields.Area d = leads_member an_area area_fault (codes "area") d area_leads
item_leads fields.Block d = leads_optional_member block_fault (codes "block") d block_leads
item_leads fields.Text d = leads_member a_text text_fault (codes "text") d text_leads
item_leads fields.Wrap d = leads_optional_member wrap_fault (codes "wrap") d wrap_leads
item_leads fields.Direction d = direction_leads (widget_in d) d
item_leads fields.Selected d = selected_leads (widget_in d) d
item_leads fields.Rows d = leads_member an_array (list_fault row_of row_fault) (codes "rows") d (λ m. list_leads row_of row_fault m row_leads)
item_leads fields.Header d = leads_optional_member row_fault (codes "header") d row_leads
item_leads fields.Footer d = leads_optional_member row_fault (codes "footer") d row_leads
item_leads fields.Widths d = leads_optional_member (list_fault table_width_of table_width_fault) (codes "widths") d
    (λ m. list_leads table_width_of table_width_fault m table_width_leads)
item_leads fields.Titles d =
    leads_member an_array (list_fault line_of line_fault) (codes "titles") d (λ m. list_leads line_of line_fault m line_leads)
item_leads fields.Ratio d = leads_optional_member share_fault (codes "ratio") d share_leads
item_leads fields.Percent d = leads_optional_member percent_fault (codes "percent") d percent_leads
item_leads fields.Label d = label_leads (widget_in d) d
item_leads fields.Groups d =
    leads_member an_array (list_fault group_of group_fault) (codes "groups") d (λ m. list_leads group_of group_fault m group_leads)
item_leads fields.Data d =
    leads_member an_array (list_fault sparkline_bar_of sparkline_bar_fault) (codes "data") d
    (λ m. list_leads sparkline_bar_of sparkline_bar_fault m sparkline_bar_leads)
item_leads fields.Date d = leads_member a_date date_fault (codes "date") d date_leads
item_leads fields.Events d =
    leads_optional_member (list_fault event_of event_fault) (codes "events") d (λ m. list_leads event_of event_fault m event_leads)
item_leads other d = number_field_leads other d

scene_field_leads : (f : Field) (d : Data) → Leads (scene_field_fault f d) d
scene_field_leads fields.Items d = leads_member some_items _ (codes "items") d (leads_leaf item_values_of some_items)
scene_field_leads f d = item_leads f d

pub scene_leads : (bad : BadField) (d : Data) → Leads (scene_fault bad d) d
scene_leads bad d = by_item bad.item refl
  where
    by_item : (item : Option ℕ) → bad.item ≡ item → Leads (scene_fault bad d) d
    by_item None is = rw is (scene_field_leads bad.field d)
    by_item (Some i) is = rw is (leads_inside_at (codes "items") i (field_fault bad.field) d (item_leads bad.field))
