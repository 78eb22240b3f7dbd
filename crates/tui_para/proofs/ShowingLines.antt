-- Lines one below the other, cell by cell.
use Rattle.std.proofs.Common.{drop, ◌≡◌, ℕ, suc, ◌+◌, ◌-◌, ◌≤◌, ◌<◌, List, [], ◌∷◌, Bool, true, false, ◌&&◌, ◌==◌, if◌then◌else◌, Option, Some, None, option_map, slice_get, refl, subst, ◌∙◌, ap, sym, arith, ⊎_elim}
use Rattle.std.proofs.lemmas.Bool.{cases_lt}
use Rattle.std.proofs.lemmas.Bool.Decides.{nat_tests}
use Rattle.std.specs.Prelude.{sum_by, OnOk, Result, Ok, Err}
use Rattle.tui_cells.specs.declared.rect.Rect.{Rect}
use Rattle.tui_cells.specs.Rect.{covers, intersection_of}
use Rattle.tui_cells.specs.Cell.{Look, set_style, restyled}
use Rattle.tui_cells.specs.Buffer.{Screen, cell_at}
use Rattle.tui_cells.specs.Layers.{Painted, layers_at, stroke}
use Rattle.tui_cells.proofs.Painting.{layers_at-append}
use Rattle.tui_cells.specs.declared.style.Style.{Style}
use Rattle.tui_text.specs.Grapheme.{glyph_width}
use Rattle.tui_para.specs.Lines.{GlyphLine}
use Rattle.tui_para.specs.Strokes.{start_of, glyph_line_layers, glyph_lines_layers}
use Rattle.tui_para.specs.Paragraph.{ParagraphData}
use Rattle.tui_frames.specs.Block.{BlockData}
use Rattle.tui_frames.specs.InBlock.{inner_of}
use Rattle.tui_frames.specs.Strokes.{block_layers}
use Rattle.tui_frames.proofs.Inside.{Fits, in_clip, inside}
use Rattle.tui_para.specs.Rendering.{ParagraphShows, base_of, content_layers, paragraph_lines, paragraph_layers, under_layers}
use Rattle.tui_para.proofs.TextOnce.{lines_are}
use Rattle.tui_para.specs.Shows.{with_line}
use Rattle.tui_para.proofs.ShowingRuns.{run_at, same_both}

glyph_line_at : (rect : Rect) (y0 : ℕ) (s : GlyphLine) (x y : ℕ) (c : Look) →
    layers_at (glyph_line_layers rect y0 s) x y c ≡ (if covers rect x y && (y == y0) then with_line rect (Some s) x c else c)
unfolding glyph_line_layers
glyph_line_at rect y0 s x y c = run_at rect (rect.x + start_of s.alignment rect.width (sum_by glyph_width s.glyphs)) y0 s.glyphs x y c

-- a row below the first
row_of : (s : GlyphLine) (ss : List GlyphLine) (y y0 : ℕ) → y0 < y → slice_get (s ∷ ss) (y - y0) ≡ slice_get ss (y - (y0 + 1))
row_of s ss y y0 l = let e : y - y0 ≡ suc (y - (y0 + 1)) = omega arith in ap (slice_get (s ∷ ss)) e

glyph_lines_above : (rect : Rect) (y0 : ℕ) (ss : List GlyphLine) (x y : ℕ) (c : Look) → y < y0 → layers_at (glyph_lines_layers rect y0 ss) x y c ≡ c
glyph_lines_above rect y0 [] x y c l = refl
glyph_lines_above rect y0 (s ∷ ss) x y c l =
    let t : (covers rect x y && (y == y0)) ≡ false = grind (arith, nat_tests) in
    let first : layers_at (glyph_line_layers rect y0 s) x y c ≡ c = glyph_line_at rect y0 s x y c ∙ ap (λ (b : Bool). if b then with_line rect (Some s) x c else c) t in
    layers_at-append (glyph_line_layers rect y0 s) (glyph_lines_layers rect (y0 + 1) ss) x y c
    ∙ (ap (layers_at (glyph_lines_layers rect (y0 + 1) ss) x y) first ∙ glyph_lines_above rect (y0 + 1) ss x y c (omega arith))

glyph_lines_at : (rect : Rect) (y0 : ℕ) (ss : List GlyphLine) (x y : ℕ) (c : Look) → y0 ≤ y →
    layers_at (glyph_lines_layers rect y0 ss) x y c ≡ (if covers rect x y then with_line rect (slice_get ss (y - y0)) x c else c)
glyph_lines_at rect y0 [] x y c l = same_both (covers rect x y) c
glyph_lines_at rect y0 (s ∷ ss) x y c l = layers_at-append (glyph_line_layers rect y0 s) (glyph_lines_layers rect (y0 + 1) ss) x y c ∙ ⊎_elim
    (λ lt.
    let t : (covers rect x y && (y == y0)) ≡ false = grind (arith, nat_tests) in
    let first : layers_at (glyph_line_layers rect y0 s) x y c ≡ c = glyph_line_at rect y0 s x y c ∙ ap (λ (b : Bool). if b then with_line rect (Some s) x c else c) t in
    ap (layers_at (glyph_lines_layers rect (y0 + 1) ss) x y) first
    ∙ (glyph_lines_at rect (y0 + 1) ss x y c (omega arith) ∙ ap (λ o. if covers rect x y then with_line rect o x c else c) (sym (row_of s ss y y0 lt))))
    (λ ge.
    let e : y ≡ y0 = omega arith in
    let t : (covers rect x y && (y == y0)) ≡ covers rect x y = grind (arith, nat_tests) in
    let z : y - y0 ≡ 0 = omega arith in
    let first : layers_at (glyph_line_layers rect y0 s) x y c ≡ (if covers rect x y then with_line rect (Some s) x c else c) = glyph_line_at rect y0 s x y c ∙ ap (λ (b : Bool). if b then with_line rect (Some s) x c else c) t in
    glyph_lines_above rect (y0 + 1) ss x y _ (omega arith)
    ∙ (first ∙ ap (λ n. if covers rect x y then with_line rect (slice_get (s ∷ ss) n) x c else c) (sym z)))
    (cases_lt y0 y)

covers_below : (rect : Rect) (x y : ℕ) → y < rect.y → covers rect x y ≡ false
covers_below rect x y l = grind (arith, nat_tests)

cell_shown : (rect : Rect) (ss : List GlyphLine) (x y : ℕ) (c : Look) →
    layers_at (glyph_lines_layers rect rect.y ss) x y c ≡ (if covers rect x y then with_line rect (slice_get ss (y - rect.y)) x c else c)
cell_shown rect ss x y c = ⊎_elim
    (λ lt. glyph_lines_above rect rect.y ss x y c lt ∙ sym (ap (λ (b : Bool). if b then with_line rect (slice_get ss (y - rect.y)) x c else c) (covers_below rect x y lt)))
    (λ ge. glyph_lines_at rect rect.y ss x y c ge)
    (cases_lt y rect.y)

map_same : (f g : Look → Look) (o : Option Look) → ((c : Look) → f c ≡ g c) → option_map f o ≡ option_map g o
map_same f g None e = refl
map_same f g (Some c) e = ap Some (e c)

-- inside the area
content_shown : (p : ParagraphData) (rect : Rect) (x y : ℕ) (c : Look) → covers rect x y ≡ true →
    layers_at (content_layers p rect) x y c ≡ with_line rect (slice_get (drop p.scroll_y (paragraph_lines p rect.width)) (y - rect.y)) x (restyled p.style c)
unfolding content_layers
content_shown p rect x y c inside =
    let ss = drop p.scroll_y (paragraph_lines p rect.width) in
    ap (λ (b : Bool). layers_at (glyph_lines_layers rect rect.y ss) x y (if b then restyled p.style c else c)) inside
    ∙ (cell_shown rect ss x y (restyled p.style c) ∙ ap (λ (b : Bool). if b then with_line rect (slice_get ss (y - rect.y)) x (restyled p.style c) else restyled p.style c) inside)

-- what is under the text inside the block
under_at : (o : Option BlockData) (style : Style) (clip : Rect) (x y : ℕ) (c : Look) → (covers clip x y ≡ true → Fits clip) → covers (inner_of o clip) x y ≡ true →
    restyled style (layers_at (under_layers o style clip) x y c) ≡ base_of o style c
under_at None style clip x y c fits within = refl
under_at (Some b) style clip x y c fits within =
    let on : covers clip x y ≡ true = in_clip b clip x y within in
    let first : layers_at (stroke (covers clip) (set_style style)) x y c ≡ restyled style c = rw on refl in
    ap (restyled style) (layers_at-append (stroke (covers clip) (set_style style)) (block_layers b clip) x y c
    ∙ (inside b clip x y (layers_at (stroke (covers clip) (set_style style)) x y c) (fits on).wide (fits on).high within ∙ ap (restyled b.style) first))

cell_of : (p : ParagraphData) (clip : Rect) (x y : ℕ) (c : Look) → (covers clip x y ≡ true → Fits clip) → covers (inner_of p.block clip) x y ≡ true →
    layers_at (paragraph_layers p clip) x y c
    ≡ with_line (inner_of p.block clip) (slice_get (drop p.scroll_y (paragraph_lines p (inner_of p.block clip).width)) (y - (inner_of p.block clip).y)) x (base_of p.block p.style c)
cell_of p clip x y c fits within =
    let rect = inner_of p.block clip in
    layers_at-append (under_layers p.block p.style clip) (content_layers p rect) x y c
    ∙ (content_shown p rect x y (layers_at (under_layers p.block p.style clip) x y c) within
    ∙ ap (with_line rect (slice_get (drop p.scroll_y (paragraph_lines p rect.width)) (y - rect.y)) x) (under_at p.block p.style clip x y c fits within))

-- a paragraph shows its lines
pub paragraph_shows : (p : ParagraphData) (clip : Rect) (before after : Screen) → ((x y : ℕ) → covers clip x y ≡ true → Fits clip) →
    Painted (paragraph_layers p clip) before after → ParagraphShows p clip before after
paragraph_shows p clip before after fits h = record {
  shown = λ some. (
    paragraph_lines p (inner_of p.block clip).width,
    lines_are p (inner_of p.block clip).width,
    record {
      area = h.area;
      cells = λ x y within. h.cells x y ∙ map_same (layers_at (paragraph_layers p clip) x y)
          (λ c. with_line (inner_of p.block clip) (slice_get (drop p.scroll_y (paragraph_lines p (inner_of p.block clip).width)) (y - (inner_of p.block clip).y)) x (base_of p.block p.style c))
          (cell_at before x y) (λ c. cell_of p clip x y c (fits x y) within);
    },
  );
}

-- an intersection that holds a position has far edges of at most 65535
wide_of : (a b : Rect) (x y : ℕ) → covers (intersection_of a b) x y ≡ true → (intersection_of a b).x + (intersection_of a b).width ≤ 65535
wide_of a b x y on = grind (arith, nat_tests)

high_of : (a b : Rect) (x y : ℕ) → covers (intersection_of a b) x y ≡ true → (intersection_of a b).y + (intersection_of a b).height ≤ 65535
high_of a b x y on = grind (arith, nat_tests)

-- the same after a drawing that returned Ok
pub drawn_shows : {T E : Type 0} (result : Result T E) (p : ParagraphData) (clip a b : Rect) (before after : Screen) → clip ≡ intersection_of a b
    → OnOk result (Painted (paragraph_layers p clip) before after) → OnOk result (ParagraphShows p (intersection_of a b) before after)
drawn_shows (Ok x) p clip a b before after same h =
    paragraph_shows p (intersection_of a b) before after (λ x y on. record { wide = wide_of a b x y on; high = high_of a b x y on })
    (subst (λ (r : Rect). Painted (paragraph_layers p r) before after) same h)
drawn_shows (Err e) p clip a b before after same h = tt
