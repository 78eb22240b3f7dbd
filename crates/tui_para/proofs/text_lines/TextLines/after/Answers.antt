use Rattle.std.proofs.Common.{map, drop, sym, ap, ◌∙◌}
use Rattle.std.proofs.lemmas.List.{drop-map}
use Rattle.tui_text.specs.Line.{line_data}
use Rattle.tui_text.specs.Text.{text_data}
use Rattle.tui_para.specs.WrappedText.{text_glyph_line}
use Rattle.tui_para.proofs.TextOnce.{glyph_lines_will}
use Rattle.tui_para.proofs.text_lines.TextLines.after.Goals as goal

pub returns-clause-left : goal.returns-clause-left
returns-clause-left c =
    let a = c.args.alignment in
    let n = c.args.passed in
    let lines = c.lines.result.now in
    let seen = text_glyph_line c.text_style.result a in
    ap (λ k. map seen (map line_data (drop k lines))) c.from.ensures
    ∙ (ap (map seen) (sym (drop-map line_data n lines))
    ∙ (sym (drop-map seen n (map line_data lines))
    ∙ ap (drop n) (ap (λ ls. map seen ls) c.lines.ensures ∙ ap (λ s. map (text_glyph_line s a) (text_data c.args.text.now).lines) c.text_style.ensures)))

pub returns-clause-gives : goal.returns-clause-gives
returns-clause-gives c = glyph_lines_will _ _ (returns-clause-left c)
