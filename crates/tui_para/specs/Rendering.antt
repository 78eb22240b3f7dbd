-- What a paragraph shows.
use Rattle.std.specs.Prelude.{◌≡◌, ℕ, false, List, [], ◌++◌, drop, MatchOption, Option, None, Some}
use Rattle.std.specs.Option.{option_map_or}
use Rattle.tui_cells.specs.declared.rect.Rect.{Rect}
use Rattle.tui_cells.specs.declared.style.Style.{Style}
use Rattle.tui_cells.specs.Rect.{covers, is_empty}
use Rattle.tui_cells.specs.Cell.{Look, set_style, restyled}
use Rattle.tui_cells.specs.Buffer.{Screen}
use Rattle.tui_cells.specs.Layers.{Layer, stroke}
use Rattle.tui_frames.specs.Block.{BlockData}
use Rattle.tui_frames.specs.InBlock.{inner_of}
use Rattle.tui_frames.specs.Strokes.{block_layers}
use Rattle.tui_para.specs.Lines.{GlyphLine}
use Rattle.tui_para.specs.Paragraph.{ParagraphData}
use Rattle.tui_para.specs.Shows.{AreaShows}
use Rattle.tui_para.specs.Strokes.{glyph_lines_layers}
use Rattle.tui_para.specs.WrappedText.{WrappedText, TruncatedText, wrap_text, truncate_text}

-- the lines of a paragraph at a width
abbrev pub ParagraphLines : ParagraphData → ℕ → List GlyphLine → Type 0
ParagraphLines p w lines = MatchOption p.wrap (TruncatedText w p.scroll_x p.alignment p.text lines)
    (λ wrap. WrappedText w wrap p.alignment p.text lines)

-- a cell after the styles of a paragraph and of its block are set on it
abbrev pub base_of : Option BlockData → Style → Look → Look
base_of None style c = restyled style c
base_of (Some b) style c = restyled style (restyled b.style (restyled style c))

-- if the area inside the block is not empty, it shows these lines from the scroll line on, over cells with these styles
pub record ParagraphShows (p : ParagraphData) (clip : Rect) (before after : Screen) : Type 0 where
  pub shown : is_empty (inner_of p.block clip) ≡ false → (lines : List GlyphLine) × ParagraphLines p (inner_of p.block clip).width lines
      × AreaShows (inner_of p.block clip) (base_of p.block p.style) (drop p.scroll_y lines) before after

-- the lines as a function
abbrev pub paragraph_lines : ParagraphData → ℕ → List GlyphLine
paragraph_lines p w = option_map_or (λ wrap. wrap_text w wrap p.alignment p.text) p.wrap (truncate_text w p.scroll_x p.alignment p.text)

-- what is under the text of a paragraph with a block: the paragraph's style on the clip, and the block
abbrev pub under_layers : Option BlockData → Style → Rect → List Layer
under_layers None style clip = []
under_layers (Some b) style clip = stroke (covers clip) (set_style style) ++ block_layers b clip

-- the lines from the scroll line on, one in each row
abbrev pub scrolled_layers : ParagraphData → Rect → List Layer
scrolled_layers p rect = glyph_lines_layers rect rect.y (drop p.scroll_y (paragraph_lines p rect.width))

-- the style on an area, then these lines
unfoldable pub content_layers : ParagraphData → Rect → List Layer
content_layers p rect = stroke (covers rect) (set_style p.style) ++ scrolled_layers p rect

-- the strokes of a paragraph
abbrev pub paragraph_layers : ParagraphData → Rect → List Layer
paragraph_layers p clip = under_layers p.block p.style clip ++ content_layers p (inner_of p.block clip)
