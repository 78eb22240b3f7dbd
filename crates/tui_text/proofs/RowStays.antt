-- The strokes of a row stay in it.
use Rattle.std.proofs.Common.{◌≡◌, ℕ, ◌+◌, ◌-◌, Bool, true, false, ◌&&◌, ◌||◌, ◌==◌, nat_le, nat_lt, List, [], ◌∷◌, ◌++◌, Option, Some, None, if◌then◌else◌, refl, arith}
use Rattle.std.specs.Option.{option_map_or}
use Rattle.std.proofs.lemmas.Bool.{and_parts}
use Rattle.std.proofs.lemmas.Bool.Decides.{nat_tests}
use Rattle.tui_cells.specs.declared.rect.Rect.{Rect}
use Rattle.tui_cells.specs.Cell.{set_style, write, wipe}
use Rattle.tui_cells.specs.declared.style.Style.{Style}
use Rattle.tui_cells.specs.Buffer.{Screen}
use Rattle.tui_cells.specs.Layers.{KeptOutside, Painted, StayIn, at_place, stroke}
use Rattle.tui_cells.proofs.Painting.{KeptOutside-weaker, Painted-kept}
use Rattle.tui_cells.proofs.Regions.{StayIn-wider}
use Rattle.tui_cells.specs.Rect.{covers, is_empty}
use Rattle.tui_cells.specs.Stays.{StayIn-append, StayIn-none, StayIn-stroke}
use Rattle.tui_text.specs.Grapheme.{Glyph, glyph_width}
use Rattle.tui_text.specs.Line.{LineData}
use Rattle.tui_text.specs.Painting.{
  alignment_in,
  alignment_offset,
  below,
  cells_at,
  column_at,
  first_row,
  glyph_at,
  line_glyphs,
  line_part,
  lines_layers,
  row_layers,
  row_part,
  shown_glyphs,
  text_layers,
}
use Rattle.tui_text.specs.Text.{TextData}
use Rattle.tui_clusters.specs.Width.{saturated}
use Rattle.tui_text.specs.Width.{line_width}
use Rattle.tui_text.specs.declared.alignment.Alignment.{Alignment}

place_out : (row : Rect) (x y a b : ℕ) → covers row x y ≡ true → covers row a b ≡ false → at_place x y a b ≡ false
place_out row x y a b inside out = grind (arith, nat_tests)

cells_out : (row : Rect) (x y w a b : ℕ) → covers row x y ≡ true → covers row (x + (w - 1)) y ≡ true → covers row a b ≡ false → covers (cells_at x y w) a b ≡ false
cells_out row x y w a b first last out = grind (arith, nat_tests)

after_out : (row : Rect) (x y w a b : ℕ) → covers row x y ≡ true → covers row (x + (w - 1)) y ≡ true → covers row a b ≡ false → covers (cells_at (x + 1) y (w - 1)) a b ≡ false
after_out row x y w a b first last out = grind (arith, nat_tests)

-- a grapheme whose first and last column lie in a row
pub glyph_stays : (row : Rect) (x : ℕ) (g : Glyph) → covers row x row.y ≡ true → covers row (x + (glyph_width g - 1)) row.y ≡ true → StayIn (covers row) (glyph_at x row.y g)
glyph_stays row x g first last =
    StayIn-append (StayIn-stroke (at_place x row.y) (write g.text) (λ a b out. place_out row x row.y a b first out))
    (StayIn-append (StayIn-stroke (covers (cells_at x row.y 1)) (set_style g.style) (λ a b out. cells_out row x row.y 1 a b first (one row x row.y first) out))
    (StayIn-stroke (covers (cells_at (x + 1) row.y (glyph_width g - 1))) wipe (λ a b out. after_out row x row.y (glyph_width g) a b first last out)))
  where
    one : (row : Rect) (x y : ℕ) → covers row x y ≡ true → covers row (x + 0) y ≡ true
    one row x y e = grind (arith, nat_tests)

found_stays : (row : Rect) (x : ℕ) (g : Glyph) (wide begun : Bool) (t : Bool) → (wide && (begun && (covers row x row.y && covers row (x + (glyph_width g - 1)) row.y))) ≡ t →
    StayIn (covers row) (option_map_or (λ k. glyph_at k row.y g) (if t then Some x else None) [])
found_stays row x g wide begun false e = StayIn-none
found_stays row x g wide begun true e =
    let inside = and_parts (covers row x row.y) (covers row (x + (glyph_width g - 1)) row.y) (and_parts begun _ (and_parts wide _ e).1).1 in
    glyph_stays row x g inside.0 inside.1

glyphs_stay : (row : Rect) (skip place : ℕ) (gs : List Glyph) → StayIn (covers row) (shown_glyphs row skip place gs)
unfolding shown_glyphs
glyphs_stay row skip place [] = StayIn-none
glyphs_stay row skip place (g ∷ gs) =
    StayIn-append (found_stays row (row.x + (place - skip)) g (nat_lt 0 (glyph_width g)) (nat_le skip place) _ refl) (glyphs_stay row skip (place + glyph_width g) gs)

first_out : (row : Rect) (x y : ℕ) → is_empty row ≡ false → covers row x y ≡ false → covers (first_row row) x y ≡ false
first_out row x y some out = grind (arith, nat_tests)

or_parts : (a b : Bool) → (a || b) ≡ false → a ≡ false
or_parts true b e = e
or_parts false b e = refl

line_stays : (row : Rect) (a : Alignment) (line : LineData) (t : Bool) → (is_empty row || (saturated (line_width false line) == 0)) ≡ t →
    StayIn (covers row) (if t then [] else stroke (covers (first_row row)) (set_style line.style)
    ++ shown_glyphs row (alignment_offset a (saturated (line_width false line)) row.width) (alignment_offset a row.width (saturated (line_width false line))) (line_glyphs line))
line_stays row a line true e = StayIn-none
line_stays row a line false e =
    StayIn-append (StayIn-stroke (covers (first_row row)) (set_style line.style) (λ x y out. first_out row x y (or_parts _ _ e) out)) (glyphs_stay row _ _ (line_glyphs line))

pub row_stays : (row : Rect) (a : Alignment) (line : LineData) → StayIn (covers row) (row_layers row a line)
unfolding row_layers
row_stays row a line = line_stays row a line _ refl

part_out : (row : Rect) (x y : ℕ) → row_part row x y ≡ false → is_empty row ≡ false → covers (first_row row) x y ≡ false
part_out row x y out some = grind (arith, nat_tests)

-- the style on the first row of an area changes nothing outside that row
pub style_kept : (row : Rect) (style : Style) (a b : Screen) → is_empty row ≡ false → Painted (stroke (covers (first_row row)) (set_style style)) a b →
    KeptOutside (row_part row) a b
style_kept row style a b some p = Painted-kept (StayIn-stroke (covers (first_row row)) (set_style style) (λ x y out. part_out row x y out some)) p

found : (t : Bool) (p x : ℕ) → (if t then Some p else None) ≡ Some x → (t ≡ true) × (p ≡ x)
found true p x e = (refl, cc)
found false p x e = cc

columns_out : (row : Rect) (x w u v : ℕ) → covers row x row.y ≡ true → covers row (x + (w - 1)) row.y ≡ true → row_part row u v ≡ false →
    covers (cells_at x row.y w) u v ≡ false
columns_out row x w u v first last out = grind (arith, nat_tests)

-- a grapheme that lies whole inside a row changes nothing outside it
pub glyph_kept : (row : Rect) (skip place w x : ℕ) (a b : Screen) → column_at row skip place w ≡ Some x → KeptOutside (covers (cells_at x row.y w)) a b →
    KeptOutside (row_part row) a b
glyph_kept row skip place w x a b e k =
    let p : ℕ = row.x + (place - skip) in
    let f = found _ p x e in
    let inside = and_parts (covers row p row.y) (covers row (p + (w - 1)) row.y) (and_parts (nat_le skip place) _ (and_parts (nat_lt 0 w) _ f.0).1).1 in
    KeptOutside-weaker (λ u v out. columns_out row x w u v (rw f.1 at inside.0) (rw f.1 at inside.1) out) k

-- what changes nothing outside the first row of an area changes nothing outside the area
pub line_kept : (row : Rect) (a b : Screen) → KeptOutside (row_part row) a b → KeptOutside (covers row) a b
line_kept row a b k = KeptOutside-weaker (λ x y out. rw out refl) k

-- if a line has columns, it may change its whole row
pub part_kept : (row : Rect) (line : LineData) (a b : Screen) → nat_lt 0 (line_width false line) ≡ true → KeptOutside (row_part row) a b →
    KeptOutside (line_part row line) a b
unfolding line_part
part_kept row line a b some k = KeptOutside-weaker (λ x y out. rw some at out) k

pub below_out : (area : Rect) (x y : ℕ) → covers area x y ≡ false → covers (below area) x y ≡ false
below_out area x y out = grind (arith, nat_tests)

lines_stay : (area : Rect) (given : Option Alignment) (ls : List LineData) → StayIn (covers area) (lines_layers area given ls)
unfolding lines_layers
lines_stay area given [] = StayIn-none
lines_stay area given (l ∷ ls) =
    StayIn-append (row_stays area (alignment_in given l) l) (StayIn-wider (λ x y out. below_out area x y out) (lines_stay (below area) given ls))

-- the strokes of a text stay in its area
pub text_stays : (area : Rect) (text : TextData) → StayIn (covers area) (text_layers area text)
text_stays area text = StayIn-append (StayIn-stroke (covers area) (set_style text.style) (λ x y out. out)) (lines_stay area text.alignment text.lines)
