-- The strokes of lines, cell by cell.
use Rattle.std.proofs.Common.{◌≡◌, ℕ, ◌+◌, ◌<◌, List, [], ◌∷◌, ◌++◌, Bool, true, false, ◌&&◌, ◌==◌, nat_lt, if◌then◌else◌, Option, Some, None, refl, ◌∙◌, ap, arith}
use Rattle.std.proofs.lemmas.Bool.Decides.{nat_tests}
use Rattle.tui_cells.specs.declared.rect.Rect.{Rect}
use Rattle.tui_cells.specs.Rect.{covers}
use Rattle.tui_cells.specs.Cell.{Look, write, set_style}
use Rattle.tui_cells.specs.Layers.{layers_at, stroke, at_place}
use Rattle.tui_cells.proofs.Painting.{layers_at-append}
use Rattle.tui_text.specs.Grapheme.{Glyph, glyph_width}
use Rattle.tui_para.specs.Strokes.{glyph_layers, run_layers}
use Rattle.tui_para.specs.Shows.{grapheme_in_column, with_grapheme}

-- no grapheme of a run is before its first column
in_column_before : (col : ℕ) (gs : List Glyph) (x : ℕ) → x < col → grapheme_in_column col gs x ≡ None
in_column_before col [] x l = refl
in_column_before col (g ∷ gs) x l = let h = in_column_before (col + glyph_width g) gs x (omega arith) in grind (arith, nat_tests)

two_strokes : (b a : Bool) (R : ℕ → ℕ → Bool) (g : Glyph) (x y : ℕ) (c : Look) → R x y ≡ a →
    layers_at (if b then stroke R (write g.text) ++ stroke R (set_style g.style) else []) x y c ≡ (if b && a then with_grapheme (Some g) c else c)
two_strokes false a R g x y c e = refl
two_strokes true true R g x y c e = rw e refl
two_strokes true false R g x y c e = rw e refl

grapheme_at : (clip : Rect) (col y0 : ℕ) (g : Glyph) (x y : ℕ) (c : Look) →
    layers_at (glyph_layers clip col y0 g) x y c ≡ (if (nat_lt 0 (glyph_width g) && covers clip col y0) && at_place col y0 x y then with_grapheme (Some g) c else c)
grapheme_at clip col y0 g x y c = two_strokes (nat_lt 0 (glyph_width g) && covers clip col y0) (at_place col y0 x y) (at_place col y0) g x y c refl

-- the first grapheme of a run and the others
first_then : (b d q : Bool) (m : Option Glyph) (g : Glyph) (c : Look) → (q ≡ false → b ≡ false) → (q ≡ true → d ≡ true → (b ≡ true) × (m ≡ None)) → (q ≡ true → d ≡ false → b ≡ false) →
    (if q then with_grapheme m (if b then with_grapheme (Some g) c else c) else (if b then with_grapheme (Some g) c else c)) ≡ (if q then with_grapheme (if d then Some g else m) c else c)
first_then b d false m g c h i j = rw (h refl) refl
first_then b true true m g c h i j = rw ((i refl refl).0, (i refl refl).1) refl
first_then b false true m g c h i j = rw (j refl refl) refl

out_of_row : (clip : Rect) (n col y0 x y : ℕ) → (covers clip x y && (y == y0)) ≡ false → ((nat_lt 0 n && covers clip col y0) && at_place col y0 x y) ≡ false
out_of_row clip n col y0 x y h = grind (arith, nat_tests)

in_column : (clip : Rect) (n col y0 x y : ℕ) → (covers clip x y && (y == y0)) ≡ true → (nat_lt 0 n && (x == col)) ≡ true → (((nat_lt 0 n && covers clip col y0) && at_place col y0 x y) ≡ true) × (x < col + n)
in_column clip n col y0 x y h i = (grind (arith, nat_tests), grind (arith, nat_tests))

out_of_column : (clip : Rect) (n col y0 x y : ℕ) → (covers clip x y && (y == y0)) ≡ true → (nat_lt 0 n && (x == col)) ≡ false → ((nat_lt 0 n && covers clip col y0) && at_place col y0 x y) ≡ false
out_of_column clip n col y0 x y h i = grind (arith, nat_tests)

pub same_both : {A : Type 0} (b : Bool) (c : A) → c ≡ (if b then c else c)
same_both true c = refl
same_both false c = refl

pub run_at : (clip : Rect) (col y0 : ℕ) (gs : List Glyph) (x y : ℕ) (c : Look) →
    layers_at (run_layers clip col y0 gs) x y c ≡ (if covers clip x y && (y == y0) then with_grapheme (grapheme_in_column col gs x) c else c)
unfolding run_layers
run_at clip col y0 [] x y c = same_both (covers clip x y && (y == y0)) c
run_at clip col y0 (g ∷ gs) x y c =
    let b = (nat_lt 0 (glyph_width g) && covers clip col y0) && at_place col y0 x y in
    let q = covers clip x y && (y == y0) in
    layers_at-append (glyph_layers clip col y0 g) (run_layers clip (col + glyph_width g) y0 gs) x y c
    ∙ (ap (layers_at (run_layers clip (col + glyph_width g) y0 gs) x y) (grapheme_at clip col y0 g x y c)
    ∙ (run_at clip (col + glyph_width g) y0 gs x y (if b then with_grapheme (Some g) c else c)
    ∙ first_then b (nat_lt 0 (glyph_width g) && (x == col)) q (grapheme_in_column (col + glyph_width g) gs x) g c
    (out_of_row clip (glyph_width g) col y0 x y)
    (λ h i. let k = in_column clip (glyph_width g) col y0 x y h i in (k.0, in_column_before (col + glyph_width g) gs x k.1))
    (out_of_column clip (glyph_width g) col y0 x y)))
