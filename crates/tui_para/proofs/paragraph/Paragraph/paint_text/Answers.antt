use Rattle.std.proofs.Common.{◌≡◌, List, [], ◌∷◌, Option, drop, sym, ap, ◌∙◌, subst, inr}
use Rattle.std.specs.Option.{option_map_or}
use Rattle.tui_cells.specs.Layers.{Painted}
use Rattle.tui_para.specs.Lines.{GlyphLine, TruncatesLine, lines_of_each, is_left}
use Rattle.tui_para.specs.Truncated.{truncate}
use Rattle.tui_text.specs.Grapheme.{glyph_width}
use Rattle.tui_para.specs.Paragraph.{paragraph_data}
use Rattle.tui_para.specs.Rendering.{paragraph_lines}
use Rattle.tui_para.specs.Strokes.{glyph_lines_layers}
use Rattle.tui_para.specs.TextLines.{gives_graphemes, gives_lines}
use Rattle.tui_para.specs.WrappedText.{text_glyph_lines, wrap_text, truncate_text}
use Rattle.tui_para.specs.Wrapping.{TruncatorWillYield}
use Rattle.tui_text.specs.declared.graphemes.Graphemes.{Graphemes}
use Rattle.tui_para.specs.declared.text_lines.TextLines.{TextLines}
use Rattle.tui_para.specs.declared.truncator.LineTruncator.{LineTruncator}
use Rattle.tui_para.specs.declared.wrap.Wrap.{Wrap}
use Rattle.tui_para.proofs.TextOnce.{each_is, on_ok, one_each-drop, text_wraps_once, truncates_to}
use Rattle.tui_para.proofs.paragraph.Paragraph.paint_text.Goals as goal

pub returns-in-Some-clause-ok : goal.returns-in-Some-clause-ok
returns-in-Some-clause-ok c =
    let p = paragraph_data c.args.self.now in
    let w = c.args.clip.width in
    let way = c.in-Some.wrap in
    let must_yield = (c.with_wrap-wrapper.ensures.will (wrap_text w way p.alignment p.text)).1
    (inr (c.requires, (text_glyph_lines p.text p.alignment, c.new-lines.ensures.gives, (text_wraps_once w way p.alignment p.text).meets))) in
    let lines : wrap_text w way p.alignment p.text ≡ paragraph_lines p w =
    sym (ap (λ (o : Option Wrap). option_map_or (λ (wrap : Wrap). wrap_text w wrap p.alignment p.text) o (truncate_text w p.scroll_x p.alignment p.text)) c.in-Some.is) in
    on_ok c.paint_lines.result
    (λ paints. subst (λ (ls : List GlyphLine). Painted (glyph_lines_layers c.args.clip c.args.clip.y (drop p.scroll_y ls)) c.args.buf.now c.paint_lines.new.buf) lines (paints (wrap_text w way p.alignment p.text) must_yield))
    c.paint_lines.ensures.ok

pub returns-in-None-clause-ok : goal.returns-in-None-clause-ok
returns-in-None-clause-ok c =
    let p = paragraph_data c.args.self.now in
    let w = c.args.clip.width in
    let y = p.scroll_y in
    let truncated = λ (t : GlyphLine). truncate glyph_width w (is_left t.alignment) p.scroll_x t.glyphs in
    let left = drop y (text_glyph_lines p.text p.alignment) in
    let shown = lines_of_each (λ t. truncated t ∷ []) left in
    let must_yield = (c.new-truncator.ensures.will p.scroll_x shown).1
    (inr (c.requires, (left, c.after-lines.ensures.gives, each_is (TruncatesLine w p.scroll_x) (λ t. truncated t ∷ []) (truncates_to w p.scroll_x) left))) in
    let lines : shown ≡ drop y (paragraph_lines p w) =
    one_each-drop truncated y (text_glyph_lines p.text p.alignment)
    ∙ sym (ap (λ (o : Option Wrap). drop y (option_map_or (λ (wrap : Wrap). wrap_text w wrap p.alignment p.text) o (truncate_text w p.scroll_x p.alignment p.text))) c.in-None.is) in
    on_ok c.paint_lines-in-None.result
    (λ paints. subst (λ (ls : List GlyphLine). Painted (glyph_lines_layers c.args.clip c.args.clip.y ls) c.args.buf.now c.paint_lines-in-None.new.buf) lines
    (paints shown (subst (λ (s : LineTruncator TextLines Graphemes). TruncatorWillYield gives_lines gives_graphemes s shown) (sym c.set_horizontal_offset.ensures) must_yield)))
    c.paint_lines-in-None.ensures.ok
