-- A paragraph as plain data.
use Rattle.std.specs.Prelude.{ℕ, Option, None, option_map, unwrap_or}
use Rattle.tui_cells.specs.Style.{no_style}
use Rattle.tui_cells.specs.declared.style.Style.{Style}
use Rattle.tui_frames.specs.Block.{BlockData, block_data}
use Rattle.tui_frames.specs.Space.{columns_around, rows_around}
use Rattle.tui_para.specs.declared.paragraph.Paragraph.{Paragraph}
use Rattle.tui_para.specs.declared.wrap.Wrap.{Wrap}
use Rattle.tui_text.specs.Text.{TextData, text_data}
use Rattle.tui_text.specs.declared.alignment.Alignment.{Alignment}
use Rattle.tui_text.specs.declared.alignment.Alignment.TheVariants.{Left}

-- a paragraph as plain data
pub record ParagraphData : Type 0 where
  pub block : Option BlockData
  pub text : TextData
  pub style : Style
  pub wrap : Option Wrap
  pub scroll_y : ℕ
  pub scroll_x : ℕ
  pub alignment : Alignment

-- a paragraph of the code as plain data
abbrev pub paragraph_data : Paragraph → ParagraphData
paragraph_data p = record {
  block = option_map block_data p.block;
  text = text_data p.text;
  style = p.style;
  wrap = p.wrap;
  scroll_y = p.scroll.y;
  scroll_x = p.scroll.x;
  alignment = p.alignment;
}

-- how many rows the block takes, if there is one
abbrev pub block_rows : ParagraphData → Option ℕ
block_rows p = option_map rows_around p.block

-- how many columns the block takes, if there is one
abbrev pub block_columns : ParagraphData → Option ℕ
block_columns p = option_map columns_around p.block

-- a text without a block or another style than its own, neither wrapped nor scrolled, in its own alignment or else to
-- the left
abbrev pub paragraph_of : TextData → ParagraphData
paragraph_of text = record {
  block = None;
  text = text;
  style = no_style;
  wrap = None;
  scroll_y = 0;
  scroll_x = 0;
  alignment = unwrap_or text.alignment Left;
}
