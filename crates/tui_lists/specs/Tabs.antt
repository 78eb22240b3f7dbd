-- Tabs as plain data, and their width.
use Rattle.std.specs.Prelude.{ℕ, ◌+◌, ◌-◌, ◌*◌, ◌==◌, min, Bool, List, length, map, Option, None, Some, option_map, unwrap_or, sum_by, if◌then◌else◌}
use Rattle.tui_cells.specs.declared.style.Style.{Style}
use Rattle.tui_cells.specs.Cell.{space}
use Rattle.tui_cells.specs.Style.{no_style}
use Rattle.tui_cells.specs.Symbols.{utf8}
use Rattle.tui_frames.specs.Block.{BlockData, block_data}
use Rattle.tui_lists.specs.declared.tabs.Tabs as widget
use Rattle.tui_text.specs.Line.{LineData, line_data, raw_line}
use Rattle.tui_text.specs.Span.{SpanData, raw_span, span_data}
use Rattle.tui_text.specs.Width.{line_width, span_width}

-- tabs as plain data
pub record TabsData : Type 0 where
  pub block : Option BlockData
  pub titles : List LineData
  pub padding_left : LineData
  pub padding_right : LineData
  pub selected : Option ℕ
  pub style : Style
  pub highlight_style : Style
  pub divider : SpanData

-- tabs of the code as plain data
abbrev pub tabs_data : widget.Tabs → TabsData
tabs_data t = record {
  block = option_map block_data t.block;
  titles = map line_data t.titles.items;
  padding_left = line_data t.padding_left;
  padding_right = line_data t.padding_right;
  selected = t.selected;
  style = t.style;
  highlight_style = t.highlight_style;
  divider = span_data t.divider;
}

-- Which of `count` titles is selected: none if there are none, else the one that was selected, at most the last, or the
-- first if none was.
abbrev pub selected_in : ℕ → Option ℕ → Option ℕ
selected_in count selected = if count == 0 then None else Some (min (unwrap_or selected 0) (count - 1))

-- the style that swaps foreground and background
abbrev pub reversed : Style
reversed = record no_style { add_modifier = record { bits = 64 } }

-- titles with a space on each side and a line between two, the first one selected and reversed
abbrev pub tabs_of : List LineData → TabsData
tabs_of titles = record {
  block = None;
  titles = titles;
  padding_left = raw_line space;
  padding_right = raw_line space;
  selected = selected_in (length titles) None;
  style = no_style;
  highlight_style = reversed;
  divider = raw_span (utf8 "│");
}

-- the width of a title with its paddings, in columns
abbrev pub tab_width : Bool → TabsData → LineData → ℕ
tab_width cjk t title = line_width cjk t.padding_left + line_width cjk title + line_width cjk t.padding_right

-- the width of all titles with their paddings, and of the dividers between them
abbrev pub tabs_width : Bool → TabsData → ℕ
tabs_width cjk t = sum_by (tab_width cjk t) t.titles + (length t.titles - 1) * span_width cjk t.divider
