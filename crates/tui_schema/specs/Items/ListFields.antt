-- The fields of `list`.
use Rattle.std.specs.Prelude.{ℕ, Bool, false, Option, option_map, Result, Ok, unwrap_or}
use Rattle.serde_json.specs.Data.{Data}
use Rattle.serde_json.specs.Find.{as_bool}
use Rattle.tui_cells.specs.declared.style.Style.{Style}
use Rattle.tui_layout.specs.declared.highlight_spacing.HighlightSpacing.{HighlightSpacing}
use Rattle.tui_layout.specs.declared.highlight_spacing.HighlightSpacing.TheVariants.{WhenSelected}
use Rattle.tui_lists.specs.List.{ListData, list_of as new_list}
use Rattle.tui_lists.specs.declared.direction.ListDirection.{ListDirection}
use Rattle.tui_lists.specs.declared.direction.ListDirection.TheVariants.{TopToBottom}
use Rattle.tui_lists.specs.declared.list.state.ListState.{ListState}
use Rattle.tui_text.specs.Line.{LineData, raw_line}
use Rattle.tui_schema.specs.declared.field.Field.TheVariants as fields
use Rattle.tui_schema.specs.Items.Frame.{frame_in, style_in}
use Rattle.tui_schema.specs.Kinds.ListItem.{list_item_of}
use Rattle.tui_json.specs.Members.{list_of}
use Rattle.tui_json.specs.Named.{named_of}
use Rattle.tui_json.specs.Names.{highlight_spacings}
use Rattle.tui_schema.specs.Kinds.Names.{list_directions}
use Rattle.tui_json.specs.Number.{u64_of}
use Rattle.tui_schema.specs.Kinds.Symbol.{symbol_of}
use Rattle.tui_json.specs.Refusals.{◌>>=◌}
use Rattle.tui_schema.specs.Refusals.{required, optional}
use Rattle.tui_schema.specs.declared.bad_field.BadField.{BadField}

-- the highlight of the selected item
unfoldable pub list_marks_of : Option ℕ → Data → Result (Option LineData × Style × Bool × HighlightSpacing) BadField
list_marks_of i d = do
  symbol ← optional symbol_of i fields.HighlightSymbol d
  style ← style_in i fields.HighlightStyle d
  repeats ← optional as_bool i fields.RepeatHighlightSymbol d
  spacing ← optional (named_of highlight_spacings) i fields.HighlightSpacing d
  Ok (option_map raw_line symbol, style, unwrap_or repeats false, unwrap_or spacing WhenSelected)

-- the direction, the padding and the initial state
unfoldable pub scrolling_of : Option ℕ → Data → Result (ListDirection × ℕ × ListState) BadField
scrolling_of i d = do
  direction ← optional (named_of list_directions) i fields.Direction d
  padding ← optional u64_of i fields.ScrollPadding d
  offset ← optional u64_of i fields.Offset d
  selected ← optional u64_of i fields.Selected d
  Ok (unwrap_or direction TopToBottom, unwrap_or padding 0, record { offset = unwrap_or offset 0; selected = selected })

-- a list and its initial state
unfoldable pub shown_list : Option ℕ → Data → Result (ListData × ListState) BadField
shown_list i d = do
  frame ← frame_in i d
  items ← required (list_of list_item_of) i fields.Items d
  marks ← list_marks_of i d
  scrolling ← scrolling_of i d
  Ok (
    record (new_list items) {
      block = frame.0;
      style = frame.1;
      symbol = marks.0;
      highlight_style = marks.1;
      repeats = marks.2;
      spacing = marks.3;
      direction = scrolling.0;
      padding = scrolling.1;
    },
    scrolling.2,
  )
