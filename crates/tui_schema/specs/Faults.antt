-- What a value of each kind should be, and where in a value of the kind the value is that is not valid.
use Rattle.std.specs.Prelude.{List, ◌++◌, ℕ, Option, Some, None, codes, map, option_and_then, if◌then◌else◌}
use Rattle.std.specs.Str.{bytes_eq}
use Rattle.serde_json.specs.Data.{Data, array, object}
use Rattle.serde_json.specs.Find.{as_array, as_bool, as_str, get}
use Rattle.tui_json.specs.Constraint.{a_constraint, constraint_fault}
use Rattle.tui_json.specs.Faults as faults
use Rattle.tui_json.specs.Faults.{FaultData, WantedData, ◌or◌, no_parts, two_values, words}
use Rattle.tui_json.specs.Faults.{elements_fault, fault_of, given_member_fault, member_fault, members_fault, optional_member_fault, pair_fault}
use Rattle.tui_json.specs.Members.{list_of, member, pair_of}
use Rattle.tui_json.specs.Named.{Names, listed_names, named_of}
use Rattle.tui_json.specs.Names.{merge_strategies}
use Rattle.tui_json.specs.Number.{i32_of, u16_of, u64_of, within}
use Rattle.tui_schema.specs.Kinds.Bars.{bar_of, group_of, sparkline_bar_of}
use Rattle.tui_schema.specs.Kinds.Block.{block_of}
use Rattle.tui_schema.specs.Kinds.Borders.{side_named, sides_of}
use Rattle.tui_schema.specs.Kinds.Color.{color_of}
use Rattle.tui_schema.specs.Kinds.Date.{date_of}
use Rattle.tui_schema.specs.Kinds.Fraction.{share_of}
use Rattle.tui_schema.specs.Kinds.Line.{line_of}
use Rattle.tui_schema.specs.Kinds.ListItem.{list_item_of}
use Rattle.tui_schema.specs.Kinds.Modifier.{modifier_named, modifiers_of}
use Rattle.tui_schema.specs.Kinds.Names.{alignments, border_types, title_positions}
use Rattle.tui_schema.specs.Kinds.Padding.{padding_of}
use Rattle.tui_schema.specs.Kinds.Shadow.{effect_named, shadow_of}
use Rattle.tui_schema.specs.Kinds.Span.{span_of}
use Rattle.tui_schema.specs.Kinds.Style.{style_of}
use Rattle.tui_schema.specs.Kinds.StyledDate.{event_of}
use Rattle.tui_schema.specs.Kinds.Symbol.{symbol_of}
use Rattle.tui_schema.specs.Kinds.Table.{row_of, table_cell_of}
use Rattle.tui_schema.specs.Kinds.TableWidth.{table_width_of}
use Rattle.tui_schema.specs.Kinds.Text.{text_of}
use Rattle.tui_schema.specs.Kinds.Title.{title_of}
use Rattle.tui_schema.specs.Kinds.Wrap.{wrap_of}

-- where a value has its fault, if it has one
abbrev pub Finds : Type 0
Finds = Data → Option FaultData

-- ---- kinds whose values have no parts

abbrev pub string_fault : Finds
string_fault = fault_of as_str (words (codes "a string")) no_parts

abbrev pub flag_fault : Finds
flag_fault = fault_of as_bool (words (codes "true or false")) no_parts

abbrev pub short_fault : Finds
short_fault = fault_of u16_of (faults.number 0 65535) no_parts

abbrev pub a_long : WantedData
a_long = words (codes "a whole number from 0, below 2^64")

abbrev pub long_fault : Finds
long_fault = fault_of u64_of a_long no_parts

abbrev pub signed_fault : Finds
signed_fault = fault_of i32_of (words (codes "a signed 32-bit whole number")) no_parts

-- one of some names
abbrev pub named_fault : {A : Type 0} → Names A → Finds
named_fault names = fault_of (named_of names) (words (listed_names (map names.name names.values))) no_parts

abbrev pub a_color : WantedData
a_color = words (codes "`reset`, `black`, `red`, `green`, `yellow`, `blue`, `magenta`, `cyan`, "
    ++ (codes "`gray`, `darkgray`, `lightred`, `lightgreen`, `lightyellow`, `lightblue`, "
    ++ codes "`lightmagenta`, `lightcyan`, `white`, `#` and six hexadecimal digits, or a number from 0 to 255"))

abbrev pub color_fault : Finds
color_fault = fault_of color_of a_color no_parts

abbrev pub a_symbol : WantedData
a_symbol = words (codes "a string of at most 32 bytes without control characters")

abbrev pub symbol_fault : Finds
symbol_fault = fault_of symbol_of a_symbol no_parts

abbrev pub a_modifier : WantedData
a_modifier = words (codes "`bold`, `dim`, `italic`, `underlined`, `slow_blink`, `rapid_blink`, `reversed`, `hidden` or `crossed_out`")

abbrev pub a_border_side : WantedData
a_border_side = words (codes "`top`, `right`, `bottom` or `left`")

abbrev pub an_area : WantedData
an_area = words (codes "`[x, y, width, height]`, whole numbers from 0 to 65535")

abbrev pub a_padding : WantedData
a_padding = words (codes "`[left, right, top, bottom]`, whole numbers from 0 to 65535")

abbrev pub a_date : WantedData
a_date = words (codes "`[year, month, day]`, a day of the calendar")

abbrev pub a_share : WantedData
a_share = words (codes "`[num, den]`, whole numbers from 0, below 2^64, the first at most the second, and the second not 0")

abbrev pub a_bar_set : WantedData
a_bar_set = words (codes "`NineLevels` or `ThreeLevels`")

abbrev pub an_effect : WantedData
an_effect = words (codes "`overlay`, `dimmed`, `block`, `light_shade`, `medium_shade`, `dark_shade` or `symbol`")

-- ---- kinds of which a value may have parts

abbrev pub an_array : WantedData
an_array = words (codes "an array")

-- an array of values of one kind
abbrev pub list_fault : {A : Type 0} → (Data → Option A) → Finds → Finds
list_fault kind fault = fault_of (list_of kind) an_array (elements_fault fault)

unfoldable pub modifiers_parts : Finds
modifiers_parts d = elements_fault (fault_of modifier_named a_modifier no_parts) d

abbrev pub modifiers_fault : Finds
modifiers_fault = fault_of modifiers_of an_array modifiers_parts

unfoldable pub style_parts : Finds
style_parts d =
    optional_member_fault color_fault (codes "fg") d
    or optional_member_fault color_fault (codes "bg") d
    or optional_member_fault modifiers_fault (codes "add") d
    or optional_member_fault modifiers_fault (codes "sub") d

abbrev pub a_style : WantedData
a_style = words (codes "an object with `fg`, `bg`, `add` or `sub`")

abbrev pub style_fault : Finds
style_fault = fault_of style_of a_style style_parts

-- the member `style`
abbrev pub style_member_fault : Finds
style_member_fault = optional_member_fault style_fault (codes "style")

abbrev pub span_members : Finds
span_members d = member_fault (words (codes "a string")) string_fault (codes "text") d or style_member_fault d

unfoldable pub span_parts : Finds
span_parts d = members_fault span_members d

abbrev pub a_span : WantedData
a_span = words (codes "a string, or an object with `text`")

abbrev pub span_fault : Finds
span_fault = fault_of span_of a_span span_parts

-- of an array its values, and of an object its members
abbrev pub either_parts : Finds → Finds → Finds
either_parts values members (array ds) = values (array ds)
either_parts values members (object ms) = members (object ms)
either_parts values members d = None

abbrev pub line_members : Finds
line_members d =
    member_fault an_array (list_fault span_of span_fault) (codes "spans") d
    or style_member_fault d
    or optional_member_fault (named_fault alignments) (codes "alignment") d

unfoldable pub line_parts : Finds
line_parts d = either_parts (elements_fault span_fault) line_members d

abbrev pub a_line : WantedData
a_line = words (codes "a string, an array of spans, or an object with `spans`")

abbrev pub line_fault : Finds
line_fault = fault_of line_of a_line line_parts

abbrev pub text_members : Finds
text_members d =
    member_fault an_array (list_fault line_of line_fault) (codes "lines") d
    or style_member_fault d
    or optional_member_fault (named_fault alignments) (codes "alignment") d

unfoldable pub text_parts : Finds
text_parts d = either_parts (elements_fault line_fault) text_members d

abbrev pub a_text : WantedData
a_text = words (codes "a string, an array of lines, or an object with `lines`")

abbrev pub text_fault : Finds
text_fault = fault_of text_of a_text text_parts

-- what has the member `name` is an object with members; other values have their own parts
abbrev pub if_member : List ℕ → Finds → Finds → Finds
if_member name members others d = by_member (get name d)
  where
    by_member : Option Data → Option FaultData
    by_member (Some m) = members d
    by_member None = others d

abbrev pub title_members : Finds
title_members d = member_fault a_line line_fault (codes "line") d or optional_member_fault (named_fault title_positions) (codes "position") d

unfoldable pub title_parts : Finds
title_parts d = if_member (codes "line") title_members line_parts d

abbrev pub a_title : WantedData
a_title = words (codes "a line, or an object with `line`")

abbrev pub title_fault : Finds
title_fault = fault_of title_of a_title title_parts

abbrev pub list_item_members : Finds
list_item_members d = member_fault a_text text_fault (codes "text") d or style_member_fault d

unfoldable pub list_item_parts : Finds
list_item_parts d = if_member (codes "text") list_item_members text_parts d

abbrev pub a_list_item : WantedData
a_list_item = words (codes "a text, or an object with `text`")

abbrev pub list_item_fault : Finds
list_item_fault = fault_of list_item_of a_list_item list_item_parts

abbrev pub cell_members : Finds
cell_members d = member_fault a_text text_fault (codes "text") d or style_member_fault d or optional_member_fault short_fault (codes "column_span") d

unfoldable pub cell_parts : Finds
cell_parts d = if_member (codes "text") cell_members text_parts d

abbrev pub cell_fault : Finds
cell_fault = fault_of table_cell_of a_list_item cell_parts

abbrev pub row_members : Finds
row_members d =
    member_fault an_array (list_fault table_cell_of cell_fault) (codes "cells") d
    or optional_member_fault short_fault (codes "height") d
    or optional_member_fault short_fault (codes "top_margin") d
    or optional_member_fault short_fault (codes "bottom_margin") d
    or style_member_fault d

unfoldable pub row_parts : Finds
row_parts d = either_parts (elements_fault cell_fault) row_members d

abbrev pub a_row : WantedData
a_row = words (codes "an array of cells, or an object with `cells`")

abbrev pub row_fault : Finds
row_fault = fault_of row_of a_row row_parts

abbrev pub bar_members : Finds
bar_members d =
    member_fault a_long long_fault (codes "value") d
    or optional_member_fault line_fault (codes "label") d
    or style_member_fault d
    or optional_member_fault style_fault (codes "value_style") d
    or optional_member_fault string_fault (codes "text_value") d

unfoldable pub bar_parts : Finds
bar_parts d = members_fault bar_members d

abbrev pub a_bar : WantedData
a_bar = words (codes "a whole number from 0, below 2^64, or an object with `value`")

abbrev pub bar_fault : Finds
bar_fault = fault_of bar_of a_bar bar_parts

abbrev pub group_members : Finds
group_members d = member_fault an_array (list_fault bar_of bar_fault) (codes "bars") d or optional_member_fault line_fault (codes "label") d

unfoldable pub group_parts : Finds
group_parts d = either_parts (elements_fault bar_fault) group_members d

abbrev pub a_group : WantedData
a_group = words (codes "an array of bars, or an object with `bars`")

abbrev pub group_fault : Finds
group_fault = fault_of group_of a_group group_parts

abbrev pub sparkline_bar_members : Finds
sparkline_bar_members d = optional_member_fault long_fault (codes "value") d or style_member_fault d

unfoldable pub sparkline_bar_parts : Finds
sparkline_bar_parts d = members_fault sparkline_bar_members d

abbrev pub a_sparkline_bar : WantedData
a_sparkline_bar = words (codes "a whole number from 0, below 2^64, null, or an object with `value` or `style`")

abbrev pub sparkline_bar_fault : Finds
sparkline_bar_fault = fault_of sparkline_bar_of a_sparkline_bar sparkline_bar_parts

abbrev pub date_fault : Finds
date_fault = fault_of date_of a_date no_parts

abbrev pub event_members : Finds
event_members d = member_fault a_date date_fault (codes "date") d or member_fault a_style style_fault (codes "style") d

unfoldable pub event_parts : Finds
event_parts d = members_fault event_members d

abbrev pub an_event : WantedData
an_event = words (codes "an object with `date` and `style`")

abbrev pub event_fault : Finds
event_fault = fault_of event_of an_event event_parts

abbrev pub wrap_members : Finds
wrap_members d = member_fault (words (codes "true or false")) flag_fault (codes "trim") d or optional_member_fault flag_fault (codes "hyphens") d

unfoldable pub wrap_parts : Finds
wrap_parts d = members_fault wrap_members d

abbrev pub a_wrap : WantedData
a_wrap = words (codes "an object with `trim`")

abbrev pub wrap_fault : Finds
wrap_fault = fault_of wrap_of a_wrap wrap_parts

-- the two numbers of a fraction
abbrev pub fraction_parts : Finds
fraction_parts d = option_and_then (pair_fault long_fault long_fault) (as_array d)

abbrev pub share_fault : Finds
share_fault = fault_of share_of a_share fraction_parts

abbrev pub percent_fault : Finds
percent_fault = fault_of (within 0 100) (faults.number 0 100) no_parts

-- a column width of a table: a percentage is at most 100
unfoldable pub table_width_parts : Finds
table_width_parts d = constraint_fault d or given_member_fault percent_fault (codes "percentage") d

abbrev pub table_width_fault : Finds
table_width_fault = fault_of table_width_of a_constraint table_width_parts

-- an array of two values of kinds
abbrev pub pair_of_fault : {A : Type 0} → (Data → Option A) → Finds → Finds
pair_of_fault kind fault = fault_of (pair_of kind kind) two_values (λ d. option_and_then (pair_fault fault fault) (as_array d))

abbrev pub effect_fault : Finds
effect_fault = fault_of effect_named an_effect no_parts

-- with the effect `symbol` a shadow has a symbol
abbrev pub shadow_symbol_fault : Finds
shadow_symbol_fault d = by_effect (member as_str (codes "effect") d)
  where
    by_effect : Option (List ℕ) → Option FaultData
    by_effect (Some name) = if bytes_eq name (codes "symbol") then member_fault a_symbol symbol_fault (codes "symbol") d else None
    by_effect None = None

abbrev pub shadow_members : Finds
shadow_members d =
    member_fault an_effect effect_fault (codes "effect") d
    or shadow_symbol_fault d
    or style_member_fault d
    or optional_member_fault (pair_of_fault i32_of signed_fault) (codes "offset") d

unfoldable pub shadow_parts : Finds
shadow_parts d = members_fault shadow_members d

abbrev pub a_shadow : WantedData
a_shadow = words (codes "an object with `effect`")

abbrev pub shadow_fault : Finds
shadow_fault = fault_of shadow_of a_shadow shadow_parts

-- ---- blocks

unfoldable pub borders_parts : Finds
borders_parts d = elements_fault (fault_of side_named a_border_side no_parts) d

abbrev pub borders_fault : Finds
borders_fault = fault_of sides_of an_array borders_parts

abbrev pub padding_fault : Finds
padding_fault = fault_of padding_of a_padding (elements_fault short_fault)

-- of the borders, and of the space inside them
unfoldable pub frame_parts : Finds
frame_parts d =
    optional_member_fault borders_fault (codes "borders") d
    or optional_member_fault (named_fault border_types) (codes "border_type") d
    or optional_member_fault style_fault (codes "border_style") d
    or style_member_fault d
    or optional_member_fault padding_fault (codes "padding") d

-- of the titles
unfoldable pub titles_parts : Finds
titles_parts d =
    optional_member_fault (list_fault title_of title_fault) (codes "titles") d
    or optional_member_fault style_fault (codes "title_style") d
    or optional_member_fault (named_fault alignments) (codes "title_alignment") d
    or optional_member_fault (named_fault title_positions) (codes "title_position") d

unfoldable pub block_parts : Finds
block_parts d =
    frame_parts d
    or titles_parts d
    or optional_member_fault (named_fault merge_strategies) (codes "merge_borders") d
    or optional_member_fault shadow_fault (codes "shadow") d

abbrev pub an_object : WantedData
an_object = words (codes "an object")

abbrev pub block_fault : Finds
block_fault = fault_of block_of an_object block_parts
