-- What a paragraph shows of a text from one of its lines on.
use Rattle.std.proofs.Common.{◌≡◌, ℕ, zero, suc, ◌+◌, ◌≤◌, Bool, List, [], ◌∷◌, ◌++◌, drop, take, sum_by, Some, refl, sym, ap, ◌∙◌, arith}
use Rattle.std.proofs.lemmas.Bool.Decides.{nat_tests}
use Rattle.tui_cells.specs.Cell.{set_style}
use Rattle.tui_cells.specs.Layers.{stroke}
use Rattle.tui_cells.specs.Rect.{bottom_of, covers}
use Rattle.tui_cells.specs.Style.{no_style}
use Rattle.tui_cells.specs.declared.rect.Rect.{Rect}
use Rattle.tui_para.specs.Hyphens.{at_blanks}
use Rattle.tui_para.specs.Lines.{GlyphLine}
use Rattle.tui_para.specs.Paragraph.{ParagraphData}
use Rattle.tui_para.specs.Rendering.{content_layers}
use Rattle.tui_para.specs.Strokes.{glyph_layers, glyph_line_layers, glyph_lines_layers, run_layers, start_of}
use Rattle.tui_line_places.specs.AfterLine.{wrapped_lines}
use Rattle.tui_text.specs.Grapheme.{Glyph, glyph_width}
use Rattle.tui_text.specs.Text.{raw_text}

-- a paragraph over the text from some line on shows the same in an area as one that is scrolled to this line
pub rest_layers : (p : ParagraphData) (trim : Bool) (line : ℕ) (text rest : List ℕ) (area : Rect) →
    wrapped_lines no_style p.alignment area.width trim rest ≡ drop line (wrapped_lines no_style p.alignment area.width trim text) →
    content_layers (record p { text = raw_text rest; wrap = Some (at_blanks trim); scroll_y = 0 }) area ≡
    content_layers (record p { text = raw_text text; wrap = Some (at_blanks trim); scroll_y = line }) area
unfolding content_layers
rest_layers p trim line text rest area e = ap (λ lines. stroke (covers area) (set_style p.style) ++ glyph_lines_layers area area.y lines) e

-- nothing is painted below the last row
run_below : (rect : Rect) (x y : ℕ) (gs : List Glyph) → bottom_of rect ≤ y → run_layers rect x y gs ≡ []
unfolding run_layers
run_below rect x y [] far = refl
run_below rect x y (g ∷ gs) far =
    let none : glyph_layers rect x y g ≡ [] = grind (arith, nat_tests) in
    rw none (run_below rect (x + glyph_width g) y gs far)

line_below : (rect : Rect) (y : ℕ) (s : GlyphLine) → bottom_of rect ≤ y → glyph_line_layers rect y s ≡ []
unfolding glyph_line_layers
line_below rect y s far = run_below rect (rect.x + start_of s.alignment rect.width (sum_by glyph_width s.glyphs)) y s.glyphs far

lines_below : (rect : Rect) (y : ℕ) (ss : List GlyphLine) → bottom_of rect ≤ y → glyph_lines_layers rect y ss ≡ []
lines_below rect y [] far = refl
lines_below rect y (s ∷ ss) far = rw (line_below rect y s far) (lines_below rect (y + 1) ss (omega arith))

-- only as many lines are shown as there are rows
lines_shown : (rect : Rect) (n y : ℕ) (ss : List GlyphLine) → bottom_of rect ≤ y + n → glyph_lines_layers rect y ss ≡ glyph_lines_layers rect y (take n ss)
lines_shown rect zero y ss far = lines_below rect y ss (omega arith)
lines_shown rect (suc n) y [] far = refl
lines_shown rect (suc n) y (s ∷ ss) far = ap (λ ls. glyph_line_layers rect y s ++ ls) (lines_shown rect n (y + 1) ss (omega arith))

-- a text with the same first lines shows the same
pub part_layers : (p : ParagraphData) (trim : Bool) (n : ℕ) (text part : List ℕ) (area : Rect) → bottom_of area ≤ area.y + n →
    take n (wrapped_lines no_style p.alignment area.width trim part) ≡ take n (wrapped_lines no_style p.alignment area.width trim text) →
    content_layers (record p { text = raw_text part; wrap = Some (at_blanks trim); scroll_y = 0 }) area ≡
    content_layers (record p { text = raw_text text; wrap = Some (at_blanks trim); scroll_y = 0 }) area
unfolding content_layers
part_layers p trim n text part area far e =
    let of_part = wrapped_lines no_style p.alignment area.width trim part in
    let of_text = wrapped_lines no_style p.alignment area.width trim text in
    ap (λ ls. stroke (covers area) (set_style p.style) ++ ls)
    (lines_shown area n area.y of_part far ∙ (ap (glyph_lines_layers area area.y) e ∙ sym (lines_shown area n area.y of_text far)))
