-- The steps of a fault of each kind lead to what it says is there.
use Rattle.std.proofs.Common.{ℕ, List, Bool, true, false, Option, Some, None, codes, map, option_and_then, if◌then◌else◌, ◌≡◌, refl}
use Rattle.std.specs.Str.{bytes_eq}
use Rattle.serde_json.specs.Data.{Data, null, boolean, number, string, array, object}
use Rattle.serde_json.specs.Find.{as_array, as_bool, as_str, get}
use Rattle.tui_json.proofs.Leading.{constraint_leads, leads_elements, leads_given_member, leads_leaf, leads_member, leads_members, leads_of, leads_optional_member, leads_or, leads_pair}
use Rattle.tui_json.specs.Constraint.{a_constraint}
use Rattle.tui_json.specs.Faults as faults
use Rattle.tui_json.specs.Faults.{FaultData, Leads, elements_fault, fault_of, member_fault, no_parts, optional_member_fault, pair_fault, two_values, words}
use Rattle.tui_json.specs.Members.{list_of, member, pair_of}
use Rattle.tui_json.specs.Named.{Names, listed_names, named_of}
use Rattle.tui_json.specs.Names.{merge_strategies}
use Rattle.tui_json.specs.Number.{i32_of, u16_of, u64_of, within}
use Rattle.tui_schema.specs.Faults.{Finds, a_bar, a_bar_set, a_color, a_date, a_group, a_line, a_list_item, a_long, a_modifier, a_padding, a_row, a_shadow, a_share, a_border_side, a_span, a_sparkline_bar, a_style, a_symbol, a_text, a_title, a_wrap, an_area, an_array, an_effect, an_event, an_object, bar_fault, bar_members, bar_parts, block_fault, block_parts, borders_fault, borders_parts, cell_fault, cell_members, cell_parts, color_fault, date_fault, effect_fault, either_parts, event_fault, event_members, event_parts, flag_fault, fraction_parts, frame_parts, group_fault, group_members, group_parts, if_member, line_fault, line_members, line_parts, list_fault, list_item_fault, list_item_members, list_item_parts, long_fault, modifiers_fault, modifiers_parts, named_fault, padding_fault, pair_of_fault, percent_fault, row_fault, row_members, row_parts, shadow_fault, shadow_members, shadow_parts, shadow_symbol_fault, share_fault, short_fault, signed_fault, span_fault, span_members, span_parts, sparkline_bar_fault, sparkline_bar_members, sparkline_bar_parts, string_fault, style_fault, style_member_fault, style_parts, symbol_fault, table_width_fault, table_width_parts, text_fault, text_members, text_parts, title_fault, title_members, title_parts, titles_parts, wrap_fault, wrap_members, wrap_parts}
use Rattle.tui_schema.specs.FieldFaults.{a_widget, area_fault, bar_set_fault, widget_fault}
use Rattle.tui_schema.specs.Items.Names.{widget_of}
use Rattle.tui_schema.specs.Kinds.Area.{area_in}
use Rattle.tui_schema.specs.Kinds.Bars.{bar_of, bar_set_of, group_of, sparkline_bar_of}
use Rattle.tui_schema.specs.Kinds.Block.{block_of}
use Rattle.tui_schema.specs.Kinds.Borders.{side_named, sides_of}
use Rattle.tui_schema.specs.Kinds.Color.{color_of}
use Rattle.tui_schema.specs.Kinds.Date.{date_of}
use Rattle.tui_schema.specs.Kinds.Fraction.{share_of}
use Rattle.tui_schema.specs.Kinds.Line.{line_of}
use Rattle.tui_schema.specs.Kinds.ListItem.{list_item_of}
use Rattle.tui_schema.specs.Kinds.Modifier.{modifier_named, modifiers_of}
use Rattle.tui_schema.specs.Kinds.Names.{alignments, border_types, title_positions}
use Rattle.tui_schema.specs.Kinds.Padding.{padding_of}
use Rattle.tui_schema.specs.Kinds.Shadow.{effect_named, shadow_of}
use Rattle.tui_schema.specs.Kinds.Span.{span_of}
use Rattle.tui_schema.specs.Kinds.Style.{style_of}
use Rattle.tui_schema.specs.Kinds.StyledDate.{event_of}
use Rattle.tui_schema.specs.Kinds.Symbol.{symbol_of}
use Rattle.tui_schema.specs.Kinds.Table.{row_of, table_cell_of}
use Rattle.tui_schema.specs.Kinds.TableWidth.{table_width_of}
use Rattle.tui_schema.specs.Kinds.Text.{text_of}
use Rattle.tui_schema.specs.Kinds.Title.{title_of}
use Rattle.tui_schema.specs.Kinds.Wrap.{wrap_of}

-- ---- kinds whose values have no parts

pub string_leads : (d : Data) → Leads (string_fault d) d
string_leads = leads_leaf as_str (words (codes "a string"))

pub flag_leads : (d : Data) → Leads (flag_fault d) d
flag_leads = leads_leaf as_bool (words (codes "true or false"))

pub short_leads : (d : Data) → Leads (short_fault d) d
short_leads = leads_leaf u16_of (faults.number 0 65535)

pub long_leads : (d : Data) → Leads (long_fault d) d
long_leads = leads_leaf u64_of a_long

pub named_leads : {A : Type 0} (names : Names A) (d : Data) → Leads (named_fault names d) d
named_leads names = leads_leaf (named_of names) (words (listed_names (map names.name names.values)))

pub color_leads : (d : Data) → Leads (color_fault d) d
color_leads = leads_leaf color_of a_color

pub symbol_leads : (d : Data) → Leads (symbol_fault d) d
symbol_leads = leads_leaf symbol_of a_symbol

pub effect_leads : (d : Data) → Leads (effect_fault d) d
effect_leads = leads_leaf effect_named an_effect

pub padding_leads : (d : Data) → Leads (padding_fault d) d
padding_leads d = leads_of padding_of a_padding (elements_fault short_fault) d (leads_elements short_fault d short_leads)

pub date_leads : (d : Data) → Leads (date_fault d) d
date_leads = leads_leaf date_of a_date

-- ---- values with parts

pub list_leads : {A : Type 0} (kind : Data → Option A) (fault : Finds) (d : Data) →
    ((m : Data) → Leads (fault m) m) → Leads (list_fault kind fault d) d
list_leads kind fault d leads = leads_of (list_of kind) an_array (elements_fault fault) d (leads_elements fault d leads)

pub pair_leads : {A : Type 0} (kind : Data → Option A) (fault : Finds) (d : Data) →
    ((m : Data) → Leads (fault m) m) → Leads (pair_of_fault kind fault d) d
pair_leads kind fault d leads =
    leads_of (pair_of kind kind) two_values (λ m. option_and_then (pair_fault fault fault) (as_array m)) d (leads_pair fault fault d leads leads)

-- of an array by its values, and of an object by its members
either_leads : (values members : Finds) (d : Data) → Leads (values d) d → Leads (members d) d → Leads (either_parts values members d) d
either_leads values members null elements parts = tt
either_leads values members (boolean b) elements parts = tt
either_leads values members (number n) elements parts = tt
either_leads values members (string s) elements parts = tt
either_leads values members (array ds) elements parts = elements
either_leads values members (object ms) elements parts = parts

-- by the parts of an object with the member `name`, and of other values
if_member_leads : (name : List ℕ) (members others : Finds) (d : Data) → Leads (members d) d → Leads (others d) d →
    Leads (if_member name members others d) d
if_member_leads name members others d with_member without = by_member (get name d) refl
  where
    by_member : (found : Option Data) → get name d ≡ found → Leads (if_member name members others d) d
    by_member (Some m) is = rw is with_member
    by_member None is = rw is without

if_leads : (b : Bool) (fault : Option FaultData) (d : Data) → Leads fault d → Leads (if b then fault else None) d
if_leads true fault d leads = leads
if_leads false fault d leads = tt

-- ---- styles and text

pub modifiers_leads : (d : Data) → Leads (modifiers_fault d) d
unfolding modifiers_parts
modifiers_leads d =
    leads_of modifiers_of an_array modifiers_parts d
    (leads_elements (fault_of modifier_named a_modifier no_parts) d (leads_leaf modifier_named a_modifier))

pub style_leads : (d : Data) → Leads (style_fault d) d
unfolding style_parts
style_leads d = leads_of style_of a_style style_parts d
    (leads_or _ _ d (leads_or _ _ d (leads_or _ _ d
    (leads_optional_member color_fault (codes "fg") d color_leads)
    (leads_optional_member color_fault (codes "bg") d color_leads))
    (leads_optional_member modifiers_fault (codes "add") d modifiers_leads))
    (leads_optional_member modifiers_fault (codes "sub") d modifiers_leads))

pub style_member_leads : (d : Data) → Leads (style_member_fault d) d
style_member_leads d = leads_optional_member style_fault (codes "style") d style_leads

pub span_leads : (d : Data) → Leads (span_fault d) d
unfolding span_parts
span_leads d = leads_of span_of a_span span_parts d (leads_members span_members d
    (leads_or _ _ d (leads_member (words (codes "a string")) string_fault (codes "text") d string_leads) (style_member_leads d)))

alignment_leads : (d : Data) → Leads (optional_member_fault (named_fault alignments) (codes "alignment") d) d
alignment_leads d = leads_optional_member (named_fault alignments) (codes "alignment") d (named_leads alignments)

line_parts_lead : (d : Data) → Leads (line_parts d) d
unfolding line_parts
line_parts_lead d = either_leads (elements_fault span_fault) line_members d (leads_elements span_fault d span_leads)
    (leads_or _ _ d (leads_or _ _ d
    (leads_member an_array (list_fault span_of span_fault) (codes "spans") d (λ m. list_leads span_of span_fault m span_leads))
    (style_member_leads d))
    (alignment_leads d))

pub line_leads : (d : Data) → Leads (line_fault d) d
line_leads d = leads_of line_of a_line line_parts d (line_parts_lead d)

text_parts_lead : (d : Data) → Leads (text_parts d) d
unfolding text_parts
text_parts_lead d = either_leads (elements_fault line_fault) text_members d (leads_elements line_fault d line_leads)
    (leads_or _ _ d (leads_or _ _ d
    (leads_member an_array (list_fault line_of line_fault) (codes "lines") d (λ m. list_leads line_of line_fault m line_leads))
    (style_member_leads d))
    (alignment_leads d))

pub text_leads : (d : Data) → Leads (text_fault d) d
text_leads d = leads_of text_of a_text text_parts d (text_parts_lead d)

pub title_leads : (d : Data) → Leads (title_fault d) d
unfolding title_parts
title_leads d = leads_of title_of a_title title_parts d (if_member_leads (codes "line") title_members line_parts d
    (leads_or _ _ d
    (leads_member a_line line_fault (codes "line") d line_leads)
    (leads_optional_member (named_fault title_positions) (codes "position") d (named_leads title_positions)))
    (line_parts_lead d))

-- ---- items of lists and tables

content_leads : (d : Data) → Leads (member_fault a_text text_fault (codes "text") d) d
content_leads d = leads_member a_text text_fault (codes "text") d text_leads

pub list_item_leads : (d : Data) → Leads (list_item_fault d) d
unfolding list_item_parts
list_item_leads d = leads_of list_item_of a_list_item list_item_parts d (if_member_leads (codes "text") list_item_members text_parts d
    (leads_or _ _ d (content_leads d) (style_member_leads d)) (text_parts_lead d))

pub cell_leads : (d : Data) → Leads (cell_fault d) d
unfolding cell_parts
cell_leads d = leads_of table_cell_of a_list_item cell_parts d (if_member_leads (codes "text") cell_members text_parts d
    (leads_or _ _ d (leads_or _ _ d (content_leads d) (style_member_leads d))
    (leads_optional_member short_fault (codes "column_span") d short_leads)) (text_parts_lead d))

pub row_leads : (d : Data) → Leads (row_fault d) d
unfolding row_parts
row_leads d = leads_of row_of a_row row_parts d
    (either_leads (elements_fault cell_fault) row_members d (leads_elements cell_fault d cell_leads)
    (leads_or _ _ d (leads_or _ _ d (leads_or _ _ d (leads_or _ _ d
    (leads_member an_array (list_fault table_cell_of cell_fault) (codes "cells") d (λ m. list_leads table_cell_of cell_fault m cell_leads))
    (leads_optional_member short_fault (codes "height") d short_leads))
    (leads_optional_member short_fault (codes "top_margin") d short_leads))
    (leads_optional_member short_fault (codes "bottom_margin") d short_leads))
    (style_member_leads d)))

-- ---- bars

pub bar_leads : (d : Data) → Leads (bar_fault d) d
unfolding bar_parts
bar_leads d = leads_of bar_of a_bar bar_parts d (leads_members bar_members d
    (leads_or _ _ d (leads_or _ _ d (leads_or _ _ d (leads_or _ _ d
    (leads_member a_long long_fault (codes "value") d long_leads)
    (leads_optional_member line_fault (codes "label") d line_leads))
    (style_member_leads d))
    (leads_optional_member style_fault (codes "value_style") d style_leads))
    (leads_optional_member string_fault (codes "text_value") d string_leads)))

pub group_leads : (d : Data) → Leads (group_fault d) d
unfolding group_parts
group_leads d = leads_of group_of a_group group_parts d
    (either_leads (elements_fault bar_fault) group_members d (leads_elements bar_fault d bar_leads)
    (leads_or _ _ d
    (leads_member an_array (list_fault bar_of bar_fault) (codes "bars") d (λ m. list_leads bar_of bar_fault m bar_leads))
    (leads_optional_member line_fault (codes "label") d line_leads)))

pub sparkline_bar_leads : (d : Data) → Leads (sparkline_bar_fault d) d
unfolding sparkline_bar_parts
sparkline_bar_leads d = leads_of sparkline_bar_of a_sparkline_bar sparkline_bar_parts d (leads_members sparkline_bar_members d
    (leads_or _ _ d (leads_optional_member long_fault (codes "value") d long_leads) (style_member_leads d)))

-- ---- dates with a style, wrapping, and shadows

pub event_leads : (d : Data) → Leads (event_fault d) d
unfolding event_parts
event_leads d = leads_of event_of an_event event_parts d (leads_members event_members d
    (leads_or _ _ d
    (leads_member a_date date_fault (codes "date") d date_leads)
    (leads_member a_style style_fault (codes "style") d style_leads)))

pub wrap_leads : (d : Data) → Leads (wrap_fault d) d
unfolding wrap_parts
wrap_leads d = leads_of wrap_of a_wrap wrap_parts d (leads_members wrap_members d
    (leads_or _ _ d
    (leads_member (words (codes "true or false")) flag_fault (codes "trim") d flag_leads)
    (leads_optional_member flag_fault (codes "hyphens") d flag_leads)))

shadow_symbol_leads : (d : Data) → Leads (shadow_symbol_fault d) d
shadow_symbol_leads d = by_effect (member as_str (codes "effect") d) refl
  where
    by_effect : (effect : Option (List ℕ)) → member as_str (codes "effect") d ≡ effect → Leads (shadow_symbol_fault d) d
    by_effect (Some name) is = rw is (if_leads (bytes_eq name (codes "symbol")) (member_fault a_symbol symbol_fault (codes "symbol") d) d
        (leads_member a_symbol symbol_fault (codes "symbol") d symbol_leads))
    by_effect None is = rw is tt

signed_leads : (d : Data) → Leads (signed_fault d) d
signed_leads = leads_leaf i32_of (words (codes "a signed 32-bit whole number"))

pub shadow_leads : (d : Data) → Leads (shadow_fault d) d
unfolding shadow_parts
shadow_leads d = leads_of shadow_of a_shadow shadow_parts d (leads_members shadow_members d
    (leads_or _ _ d (leads_or _ _ d (leads_or _ _ d
    (leads_member an_effect effect_fault (codes "effect") d effect_leads)
    (shadow_symbol_leads d))
    (style_member_leads d))
    (leads_optional_member (pair_of_fault i32_of signed_fault) (codes "offset") d (λ m. pair_leads i32_of signed_fault m signed_leads))))

-- ---- blocks

pub borders_leads : (d : Data) → Leads (borders_fault d) d
unfolding borders_parts
borders_leads d =
    leads_of sides_of an_array borders_parts d (leads_elements (fault_of side_named a_border_side no_parts) d (leads_leaf side_named a_border_side))

frame_parts_lead : (d : Data) → Leads (frame_parts d) d
unfolding frame_parts
frame_parts_lead d =
    leads_or _ _ d (leads_or _ _ d (leads_or _ _ d (leads_or _ _ d
    (leads_optional_member borders_fault (codes "borders") d borders_leads)
    (leads_optional_member (named_fault border_types) (codes "border_type") d (named_leads border_types)))
    (leads_optional_member style_fault (codes "border_style") d style_leads))
    (style_member_leads d))
    (leads_optional_member padding_fault (codes "padding") d padding_leads)

titles_parts_lead : (d : Data) → Leads (titles_parts d) d
unfolding titles_parts
titles_parts_lead d =
    leads_or _ _ d (leads_or _ _ d (leads_or _ _ d
    (leads_optional_member (list_fault title_of title_fault) (codes "titles") d (λ m. list_leads title_of title_fault m title_leads))
    (leads_optional_member style_fault (codes "title_style") d style_leads))
    (leads_optional_member (named_fault alignments) (codes "title_alignment") d (named_leads alignments)))
    (leads_optional_member (named_fault title_positions) (codes "title_position") d (named_leads title_positions))

pub block_leads : (d : Data) → Leads (block_fault d) d
unfolding block_parts
block_leads d = leads_of block_of an_object block_parts d
    (leads_or _ _ d (leads_or _ _ d (leads_or _ _ d
    (frame_parts_lead d)
    (titles_parts_lead d))
    (leads_optional_member (named_fault merge_strategies) (codes "merge_borders") d (named_leads merge_strategies)))
    (leads_optional_member shadow_fault (codes "shadow") d shadow_leads))

-- ---- kinds of the fields of items

pub area_leads : (d : Data) → Leads (area_fault d) d
area_leads d = leads_of area_in an_area (elements_fault short_fault) d (leads_elements short_fault d short_leads)

pub bar_set_leads : (d : Data) → Leads (bar_set_fault d) d
bar_set_leads = leads_leaf bar_set_of a_bar_set

pub widget_leads : (d : Data) → Leads (widget_fault d) d
widget_leads = leads_leaf widget_of a_widget

pub share_leads : (d : Data) → Leads (share_fault d) d
share_leads d = leads_of share_of a_share fraction_parts d (leads_pair long_fault long_fault d long_leads long_leads)

pub percent_leads : (d : Data) → Leads (percent_fault d) d
percent_leads = leads_leaf (within 0 100) (faults.number 0 100)

table_width_parts_lead : (d : Data) → Leads (table_width_parts d) d
unfolding table_width_parts
table_width_parts_lead d = leads_or _ _ d (constraint_leads d) (leads_given_member percent_fault (codes "percentage") d percent_leads)

pub table_width_leads : (d : Data) → Leads (table_width_fault d) d
table_width_leads d = leads_of table_width_of a_constraint table_width_parts d (table_width_parts_lead d)
