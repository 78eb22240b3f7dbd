-- Strokes of graphemes side by side, and of lines one below the other.
use Rattle.std.proofs.Common.{Option, Some, None, option_map, ◌≡◌, ℕ, ◌+◌, ◌≤◌, ◌<◌, min, List, [], ◌∷◌, ◌++◌, Bool, true, false, if◌then◌else◌, refl, ◌∙◌, ap, sym, subst, arith, drop, map, length, get_or, drop-cons, add-one}
use Rattle.std.proofs.lemmas.List.{drop_all, drop-drop, drop-map, length-drop}
use Rattle.std.proofs.lemmas.Bool.Decides.{nat_tests}
use Rattle.tui_cells.specs.declared.rect.Rect.{Rect}
use Rattle.tui_cells.specs.Rect.{covers, right_of, bottom_of}
use Rattle.tui_cells.specs.Buffer.{Screen, cell_at}
use Rattle.tui_cells.specs.Cell.{Look, Edit, set_style, edited, write}
use Rattle.tui_cells.specs.Layers.{Layer, Painted, KeptOutside, at_place, stroke}
use Rattle.tui_cells.proofs.Painting.{Painted-then, Painted-none, Painted-region}
use Rattle.tui_text.specs.Grapheme.{Glyph, glyph_of, glyph_width}
use Rattle.tui_text.specs.declared.grapheme.StyledGrapheme.{StyledGrapheme}
use Rattle.std.specs.Prelude.{nat_lt, sum_by}
use Rattle.tui_text.specs.declared.alignment.Alignment.{Alignment}
use Rattle.tui_para.specs.Lines.{GlyphLine, glyph_line}
use Rattle.tui_para.specs.Strokes.{glyph_layers, run_layers, start_of, glyph_line_layers, glyph_lines_layers}

piece_past : (clip : Rect) (x y : ℕ) (p : Glyph) → right_of clip ≤ x → glyph_layers clip x y p ≡ []
piece_past clip x y p far = grind (arith, nat_tests)

-- nothing is painted past the right edge
run_past : (clip : Rect) (x y : ℕ) (ps : List Glyph) → right_of clip ≤ x → run_layers clip x y ps ≡ []
unfolding run_layers
run_past clip x y [] far = refl
run_past clip x y (p ∷ ps) far = rw (piece_past clip x y p far) (run_past clip (x + glyph_width p) y ps (omega arith))

-- a run from a saturated column on is the same
pub run_saturated : (clip : Rect) (x w y : ℕ) (ps : List Glyph) → run_layers clip (min (x + w) 65535) y ps ≡ run_layers clip (x + w) y ps
run_saturated clip x w y ps = grind (arith, run_past clip 65535 y ps, run_past clip (x + w) y ps)

pub run_ended : (clip : Rect) (x y : ℕ) (ps : List Glyph) (b : Screen) → right_of clip ≤ x → Painted (run_layers clip x y ps) b b
run_ended clip x y ps b far = rw (run_past clip x y ps far) (Painted-none b)

pub run_step : (clip : Rect) (x y : ℕ) (rs : List StyledGrapheme) (i : ℕ) (d : StyledGrapheme) (next : ℕ) (a b final : Screen) → i < length rs →
    next ≡ min (x + glyph_width (glyph_of (get_or rs i d))) 65535 →
    Painted (glyph_layers clip x y (glyph_of (get_or rs i d))) a b →
    Painted (run_layers clip next y (drop (i + 1) (map glyph_of rs))) b final →
    Painted (run_layers clip x y (drop i (map glyph_of rs))) a final
unfolding run_layers
run_step clip x y rs i d next a b final lt e p q =
    let g = glyph_of (get_or rs i d) in
    let more = drop (i + 1) (map glyph_of rs) in
    let items : drop i rs ≡ get_or rs i d ∷ drop (i + 1) rs = rw (add-one, drop-cons rs i d) refl in
    let whole : drop i (map glyph_of rs) ≡ g ∷ more = drop-map glyph_of i rs ∙ (ap (map glyph_of) items ∙ ap (λ t. g ∷ t) (sym (drop-map glyph_of (i + 1) rs))) in
    let rest : Painted (run_layers clip (x + glyph_width g) y more) b final =
    subst (λ (ls : List Layer). Painted ls b final) (run_saturated clip x (glyph_width g) y more) (rw e at q) in
    rw whole (Painted-then p rest)

pub run_done : (clip : Rect) (x y : ℕ) (ps : List Glyph) (i : ℕ) (b : Screen) → length ps ≤ i → Painted (run_layers clip x y (drop i ps)) b b
unfolding run_layers
run_done clip x y ps i b le = rw (drop_all i ps le) (Painted-none b)

pub glyph_line_is : (rect : Rect) (x y start width : ℕ) (a : Alignment) (gs : List Glyph) → x ≡ min (rect.x + start) 65535 → start ≡ start_of a rect.width width → width ≡ sum_by glyph_width gs →
    run_layers rect x y gs ≡ glyph_line_layers rect y (glyph_line a gs)
unfolding glyph_line_layers
glyph_line_is rect x y start width a gs e f h =
    ap (λ n. run_layers rect n y gs) e ∙ (run_saturated rect rect.x start y gs ∙ ap (λ n. run_layers rect (rect.x + n) y gs) (f ∙ ap (λ n. start_of a rect.width n) h))

-- a stroke inside a region keeps what is outside
pub stroke_kept : (R S : ℕ → ℕ → Bool) (e : Edit) (a b : Screen) → ((x y : ℕ) → S x y ≡ false → R x y ≡ false) → Painted (stroke R e) a b → KeptOutside S a b
stroke_kept R S e a b inside p = record { area = p.area; cells = λ x y out. p.cells x y ∙ same_cell (R x y) e (cell_at a x y) (inside x y out) }
  where
    same_cell : (r : Bool) (e : Edit) (o : Option Look) → r ≡ false → option_map (λ c. if r then edited e c else c) o ≡ o
    same_cell r e None f = refl
    same_cell r e (Some c) f = rw f refl

-- a grapheme of some width is written to its cell
pub glyph_written : (clip : Rect) (x y : ℕ) (g : Glyph) (a b c : Screen) → covers clip x y ≡ true → 0 < glyph_width g →
    Painted (stroke (at_place x y) (write g.text)) a b → Painted (stroke (covers (record { x = x; y = y; width = 1; height = 1 })) (set_style g.style)) b c →
    Painted (glyph_layers clip x y g) a c
glyph_written clip x y g a b c inside some p q =
    let wide : nat_lt 0 (glyph_width g) ≡ true = grind (arith, nat_tests) in
    let cell : Rect = record { x = x; y = y; width = 1; height = 1 } in
    let shown : glyph_layers clip x y g ≡ stroke (at_place x y) (write g.text) ++ stroke (at_place x y) (set_style g.style) = rw (wide, inside) refl in
    subst (λ (ls : List Layer). Painted ls a c) (sym shown)
    (Painted-then p (Painted-region (covers cell) (at_place x y) (set_style g.style ∷ []) b c q (λ u v. same u v)))
  where
    same : (u v : ℕ) → covers (record { x = x; y = y; width = 1; height = 1 }) u v ≡ at_place x y u v
    same u v = grind (arith, nat_tests)

pub cell_outside : (clip : Rect) (x y a b : ℕ) → covers clip x y ≡ true → covers clip a b ≡ false → covers (record { x = x; y = y; width = 1; height = 1 }) a b ≡ false
cell_outside clip x y a b inside out = grind (arith, nat_tests)

-- nothing is painted below the last row
row_past : (clip : Rect) (x y : ℕ) (gs : List Glyph) → bottom_of clip ≤ y → run_layers clip x y gs ≡ []
unfolding run_layers
row_past clip x y [] far = refl
row_past clip x y (g ∷ gs) far =
    let none : glyph_layers clip x y g ≡ [] = grind (arith, nat_tests) in
    rw none (row_past clip (x + glyph_width g) y gs far)

glyph_line_past : (rect : Rect) (y : ℕ) (s : GlyphLine) → bottom_of rect ≤ y → glyph_line_layers rect y s ≡ []
unfolding glyph_line_layers
glyph_line_past rect y s far = row_past rect (rect.x + start_of s.alignment rect.width (sum_by glyph_width s.glyphs)) y s.glyphs far

pub glyph_lines_past : (rect : Rect) (y : ℕ) (ss : List GlyphLine) → bottom_of rect ≤ y → glyph_lines_layers rect y ss ≡ []
glyph_lines_past rect y [] far = refl
glyph_lines_past rect y (s ∷ ss) far = rw (glyph_line_past rect y s far) (glyph_lines_past rect (y + 1) ss (omega arith))

-- indices in a list, if the rest of the list is known
pub drop_next : {A : Type 0} (xs : List A) (i : ℕ) (x : A) (rest : List A) → drop i xs ≡ x ∷ rest → drop (i + 1) xs ≡ rest
drop_next xs i x rest e = sym (drop-drop 1 i xs) ∙ ap (drop 1) e

pub drop_past : {A : Type 0} (xs : List A) (i n : ℕ) → i ≤ n → drop i xs ≡ [] → drop n xs ≡ []
drop_past xs i n le e = let long = length-drop i xs in let none = ap length e in drop_all n xs (omega arith)
