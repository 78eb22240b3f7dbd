-- Laws of drawing a paragraph: its strokes stay in its footprint.
use Rattle.std.specs.Prelude.{Option, None, Some, ◌≡◌, ℕ, ◌+◌, Bool, true, false, List, [], ◌∷◌, ◌++◌, ◌&&◌, ◌==◌, nat_lt, if◌then◌else◌, drop, sum_by}
use Rattle.std.proofs.Common.{◌∙◌, ap, refl, sym}
use Rattle.std.proofs.lemmas.Bool.{eqb-true, and_parts, false_from_ne_true, false≢true}
use Rattle.tui_cells.specs.declared.rect.Rect.{Rect}
use Rattle.tui_cells.specs.declared.style.Style.{Style}
use Rattle.tui_cells.specs.Rect.{covers}
use Rattle.tui_cells.specs.Cell.{write, set_style}
use Rattle.tui_cells.specs.Layers.{StayIn, at_place, stroke}
use Rattle.tui_cells.specs.Stays.{StayIn-none, StayIn-append, StayIn-stroke}
use Rattle.tui_text.specs.Grapheme.{Glyph, glyph_width}
use Rattle.tui_frames.specs.Block.{BlockData}
use Rattle.tui_frames.specs.Footprint.{footprint_if}
use Rattle.tui_frames.specs.InBlock.{inner_of}
use Rattle.tui_frames.specs.Stays.{block_stays}
use Rattle.tui_frames.specs.InBlockStays.{clip_stays, inner_stays}
use Rattle.tui_para.specs.Lines.{GlyphLine}
use Rattle.tui_para.specs.Paragraph.{ParagraphData}
use Rattle.tui_para.specs.Rendering.{content_layers, paragraph_layers, paragraph_lines, under_layers}
use Rattle.tui_para.specs.Strokes.{run_layers, start_of, glyph_line_layers, glyph_lines_layers}

-- a position inside differs from a position outside
pub at_outside : (clip : Rect) (x y a b : ℕ) → covers clip x y ≡ true → covers clip a b ≡ false → at_place x y a b ≡ false
at_outside clip x y a b inside out = false_from_ne_true (at_place x y a b)
    (λ t. false≢true (sym out ∙ (ap (λ n. covers clip n b) (eqb-true a x (and_parts (a == x) (b == y) t).0)
    ∙ (ap (λ n. covers clip x n) (eqb-true b y (and_parts (a == x) (b == y) t).1) ∙ inside))))

one_stays : (clip : Rect) (x y : ℕ) (g : Glyph) (wide inside : Bool) → covers clip x y ≡ inside →
    StayIn (covers clip) (if wide && inside then stroke (at_place x y) (write g.text) ++ stroke (at_place x y) (set_style g.style) else [])
one_stays clip x y g false inside e = StayIn-none
one_stays clip x y g true false e = StayIn-none
one_stays clip x y g true true e =
    StayIn-append (StayIn-stroke (at_place x y) (write g.text) (λ a b. at_outside clip x y a b e))
    (StayIn-stroke (at_place x y) (set_style g.style) (λ a b. at_outside clip x y a b e))

run_stays : (clip : Rect) (x y : ℕ) (gs : List Glyph) → StayIn (covers clip) (run_layers clip x y gs)
unfolding run_layers
run_stays clip x y [] = StayIn-none
run_stays clip x y (g ∷ gs) = StayIn-append
    (one_stays clip x y g (nat_lt 0 (glyph_width g)) (covers clip x y) refl)
    (run_stays clip (x + glyph_width g) y gs)

glyph_line_stays : (rect : Rect) (y : ℕ) (s : GlyphLine) → StayIn (covers rect) (glyph_line_layers rect y s)
unfolding glyph_line_layers
glyph_line_stays rect y s = run_stays rect (rect.x + start_of s.alignment rect.width (sum_by glyph_width s.glyphs)) y s.glyphs

glyph_lines_stay : (rect : Rect) (y : ℕ) (ss : List GlyphLine) → StayIn (covers rect) (glyph_lines_layers rect y ss)
glyph_lines_stay rect y [] = StayIn-none
glyph_lines_stay rect y (s ∷ ss) = StayIn-append (glyph_line_stays rect y s) (glyph_lines_stay rect (y + 1) ss)

-- what is inside the block stays there
pub content_stays : (p : ParagraphData) (rect : Rect) → StayIn (covers rect) (content_layers p rect)
unfolding content_layers
content_stays p rect =
    StayIn-append (StayIn-stroke (covers rect) (set_style p.style) (λ x y out. out))
    (glyph_lines_stay rect rect.y (drop p.scroll_y (paragraph_lines p rect.width)))

under_stays : (o : Option BlockData) (style : Style) (clip : Rect) → StayIn (footprint_if o clip) (under_layers o style clip)
under_stays None style clip = StayIn-none
under_stays (Some b) style clip = StayIn-append
    (clip_stays (Some b) clip (StayIn-stroke (covers clip) (set_style style) (λ x y out. out)))
    (block_stays b clip)

-- a paragraph changes only cells of its footprint
pub paragraph_stays : (p : ParagraphData) (clip : Rect) → StayIn (footprint_if p.block clip) (paragraph_layers p clip)
paragraph_stays p clip = StayIn-append (under_stays p.block p.style clip) (inner_stays p.block clip (content_stays p (inner_of p.block clip)))
