-- The fields of `paragraph`.
use Rattle.std.specs.Prelude.{ℕ, Option, Result, Ok, unwrap_or}
use Rattle.std.specs.Option.{option_or}
use Rattle.serde_json.specs.Data.{Data}
use Rattle.tui_cells.specs.declared.style.Style.{Style}
use Rattle.tui_text.specs.Text.{TextData}
use Rattle.tui_text.specs.declared.alignment.Alignment.{Alignment}
use Rattle.tui_para.specs.declared.wrap.Wrap.{Wrap}
use Rattle.tui_para.specs.Paragraph.{ParagraphData, paragraph_of as new_paragraph}
use Rattle.tui_schema.specs.declared.field.Field.TheVariants as fields
use Rattle.tui_schema.specs.Items.Frame.{frame_in}
use Rattle.tui_json.specs.Named.{named_of}
use Rattle.tui_schema.specs.Kinds.Names.{alignments}
use Rattle.tui_json.specs.Members.{pair_of}
use Rattle.tui_json.specs.Number.{u16_of}
use Rattle.tui_schema.specs.Kinds.Text.{text_of}
use Rattle.tui_schema.specs.Kinds.Wrap.{wrap_of}
use Rattle.tui_json.specs.Refusals.{◌>>=◌}
use Rattle.tui_schema.specs.Refusals.{required, optional}
use Rattle.tui_schema.specs.declared.bad_field.BadField.{BadField}

-- a paragraph with these fields; a field that is not given is as in a new paragraph of the text; `scroll` is (y, x)
abbrev pub paragraph_with : TextData → Style → Option Wrap → Option (ℕ × ℕ) → Option Alignment → ParagraphData
paragraph_with text style wrap scroll alignment =
    let new = new_paragraph text in
    let shift = unwrap_or scroll (new.scroll_y, new.scroll_x) in
    record {
      block = new.block;
      text = text;
      style = style;
      wrap = option_or wrap new.wrap;
      scroll_y = shift.0;
      scroll_x = shift.1;
      alignment = unwrap_or alignment new.alignment;
    }

unfoldable pub paragraph_of : Option ℕ → Data → Result ParagraphData BadField
paragraph_of i d = do
  frame ← frame_in i d
  text ← required text_of i fields.Text d
  wrap ← optional wrap_of i fields.Wrap d
  scroll ← optional (pair_of u16_of u16_of) i fields.Scroll d
  alignment ← optional (named_of alignments) i fields.Alignment d
  Ok (record (paragraph_with text frame.1 wrap scroll alignment) { block = frame.0 })
