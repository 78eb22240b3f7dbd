-- The fields of `tabs`.
use Rattle.std.specs.Prelude.{ℕ, Option, Result, Ok, unwrap_or}
use Rattle.serde_json.specs.Data.{Data}
use Rattle.tui_cells.specs.Cell.{space}
use Rattle.tui_cells.specs.Symbols.{utf8}
use Rattle.tui_cells.specs.declared.style.Style.{Style}
use Rattle.tui_lists.specs.Tabs.{TabsData, reversed, tabs_of as new_tabs}
use Rattle.tui_text.specs.Line.{LineData, raw_line}
use Rattle.tui_text.specs.Span.{SpanData, raw_span}
use Rattle.tui_schema.specs.declared.field.Field.TheVariants as fields
use Rattle.tui_schema.specs.Items.Frame.{frame_in}
use Rattle.tui_schema.specs.Kinds.Line.{line_of}
use Rattle.tui_json.specs.Members.{list_of, or_null}
use Rattle.tui_json.specs.Number.{u64_of}
use Rattle.tui_schema.specs.Kinds.Style.{style_of}
use Rattle.tui_schema.specs.Kinds.Symbol.{symbol_of}
use Rattle.tui_json.specs.Refusals.{◌>>=◌}
use Rattle.tui_schema.specs.Refusals.{given, required, optional}
use Rattle.tui_schema.specs.declared.bad_field.BadField.{BadField}

-- the selected title and its style
unfoldable pub selection_of : Option ℕ → Data → Result (Option (Option ℕ) × Style) BadField
selection_of i d = do
  selected ← given (or_null u64_of) i fields.Selected d
  style ← optional style_of i fields.HighlightStyle d
  Ok (selected, unwrap_or style reversed)

-- what is between two titles, and left and right of each title
unfoldable pub tabs_space_of : Option ℕ → Data → Result (SpanData × LineData × LineData) BadField
tabs_space_of i d = do
  divider ← optional symbol_of i fields.Divider d
  left ← optional symbol_of i fields.PaddingLeft d
  right ← optional symbol_of i fields.PaddingRight d
  Ok (raw_span (unwrap_or divider (utf8 "│")), raw_line (unwrap_or left space), raw_line (unwrap_or right space))

-- all fields of tabs
unfoldable pub shown_tabs : Option ℕ → Data → Result TabsData BadField
shown_tabs i d = do
  frame ← frame_in i d
  titles ← required (list_of line_of) i fields.Titles d
  selection ← selection_of i d
  space ← tabs_space_of i d
  Ok (record (new_tabs titles) {
    block = frame.0;
    style = frame.1;
    selected = unwrap_or selection.0 (new_tabs titles).selected;
    highlight_style = selection.1;
    divider = space.0;
    padding_left = space.1;
    padding_right = space.2;
  })
