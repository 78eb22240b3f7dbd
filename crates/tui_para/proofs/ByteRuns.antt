-- Graphemes of one printable byte each, set in one stroke.
use Rattle.std.proofs.Common.{◌≡◌, ℕ, ◌+◌, ◌<◌, ◌≤◌, List, [], ◌∷◌, ◌++◌, true, false, refl, ◌∙◌, ap, ap₂, sym, subst, arith, drop, drop-cons, add-one, append_assoc, map, length, get_or, slice_set, take}
use Rattle.std.specs.List.{list_all}
use Rattle.std.proofs.lemmas.Bool.{and_parts}
use Rattle.std.proofs.lemmas.Bool.Decides.{nat_tests}
use Rattle.std.proofs.lemmas.List.{drop-map, map-append, take_more_set}
use Rattle.std.proofs.lemmas.List.Folds.{list_all-append}
use Rattle.tui_cells.specs.declared.rect.Rect.{Rect}
use Rattle.tui_cells.specs.declared.style.Style.{Style}
use Rattle.tui_cells.specs.Buffer.{Screen}
use Rattle.tui_cells.specs.Cell.{set_style, write}
use Rattle.tui_cells.specs.Layers.{KeptOutside, Layer, Painted, ascii_layers, at_place, in_row, over}
use Rattle.tui_cells.specs.Rect.{bottom_of, covers, right_of}
use Rattle.tui_cells.proofs.Painting.{KeptOutside-weaker, Painted-kept, Painted-then}
use Rattle.tui_cells.proofs.RowWritingLaws.{ascii_stays}
use Rattle.tui_clusters.specs.Width.{width_of}
use Rattle.tui_text.specs.Grapheme.{Glyph, glyph_of}
use Rattle.tui_clusters.specs.Printable.{is_printable}
use Rattle.tui_text.specs.declared.grapheme.StyledGrapheme.{StyledGrapheme}
use Rattle.tui_clusters.proofs.OneByte.{printable_width}
use Rattle.tui_para.specs.Strokes.{byte_glyph, glyph_layers, run_layers}

pub printable_is : (b : ℕ) → 32 ≤ b → b ≤ 126 → is_printable b ≡ true
printable_is b low high = grind (arith, nat_tests)

pub glyph_is : (text : List ℕ) (b : ℕ) (s style : Style) → text ≡ b ∷ [] → s ≡ style → record { text = text; style = s } ≡ byte_glyph style b
glyph_is text b s style e f = ap₂ (λ (t : List ℕ) (k : Style). record { text = t; style = k }) e f

-- the graphemes from an index on
pub glyphs_next : (rs : List StyledGrapheme) (i : ℕ) (d : StyledGrapheme) → i < length rs → drop i (map glyph_of rs) ≡ glyph_of (get_or rs i d) ∷ drop (i + 1) (map glyph_of rs)
glyphs_next rs i d lt =
    let items : drop i rs ≡ get_or rs i d ∷ drop (i + 1) rs = rw (add-one, drop-cons rs i d) refl in
    drop-map glyph_of i rs ∙ (ap (map glyph_of) items ∙ ap (λ t. glyph_of (get_or rs i d) ∷ t) (sym (drop-map glyph_of (i + 1) rs)))

-- one more byte is copied
pub printable_more : (bytes : List ℕ) (n b : ℕ) → n < length bytes → list_all is_printable (take n bytes) ≡ true → is_printable b ≡ true →
    list_all is_printable (take (n + 1) (slice_set bytes n b)) ≡ true
printable_more bytes n b lt e f =
    let one : list_all is_printable (b ∷ []) ≡ true = rw f refl in
    ap (list_all is_printable) (take_more_set bytes n b lt) ∙ (list_all-append is_printable (take n bytes) (b ∷ []) ∙ rw (e, one) refl)

pub copied_more : (style : Style) (text more : List Glyph) (bytes : List ℕ) (n b : ℕ) (rest : List Glyph) → n < length bytes →
    text ≡ map (byte_glyph style) (take n bytes) ++ more → more ≡ byte_glyph style b ∷ rest →
    text ≡ map (byte_glyph style) (take (n + 1) (slice_set bytes n b)) ++ rest
copied_more style text more bytes n b rest lt before is =
    let copied = take n bytes in
    before ∙ (ap (λ (k : List Glyph). map (byte_glyph style) copied ++ k) is
    ∙ (sym (append_assoc (map (byte_glyph style) copied) (byte_glyph style b ∷ []) rest)
    ∙ ap (λ (k : List Glyph). k ++ rest) (sym (ap (map (byte_glyph style)) (take_more_set bytes n b lt) ∙ map-append (byte_glyph style) copied (b ∷ [])))))

byte_width : (b : ℕ) → is_printable b ≡ true → width_of (b ∷ []) ≡ 1
unfolding width_of
byte_width b e = printable_width false (b ∷ []) b refl (grind (arith, nat_tests)) (grind (arith, nat_tests))

byte_layers : (clip : Rect) (x y : ℕ) (style : Style) (b : ℕ) → covers clip x y ≡ true → width_of (b ∷ []) ≡ 1 →
    glyph_layers clip x y (byte_glyph style b) ≡ over (at_place x y) (write (b ∷ []) ∷ set_style style ∷ [])
byte_layers clip x y style b here wide = rw (wide, here) refl

-- the strokes of such graphemes, and of those after them
run_spelt : (clip : Rect) (x y : ℕ) (style : Style) (bs : List ℕ) (more : List Glyph) → clip.x ≤ x → clip.y ≤ y → y < bottom_of clip → x + length bs ≤ right_of clip →
    list_all is_printable bs ≡ true →
    run_layers clip x y (map (byte_glyph style) bs ++ more) ≡ ascii_layers x y style bs ++ run_layers clip (x + length bs) y more
unfolding run_layers ascii_layers
run_spelt clip x y style [] more left top bottom right e = ap (λ n. run_layers clip n y more) (let e : x ≡ x + 0 = omega arith in e)
run_spelt clip x y style (b ∷ bs) more left top bottom right e =
    let both = and_parts (is_printable b) _ e in
    let wide : width_of (b ∷ []) ≡ 1 = byte_width b both.0 in
    let here : covers clip x y ≡ true = grind (arith, nat_tests) in
    let first = over (at_place x y) (write (b ∷ []) ∷ set_style style ∷ []) in
    let rest = map (byte_glyph style) bs ++ more in
    let end : x + 1 + length bs ≡ x + length (b ∷ bs) = omega arith in
    ap₂ (λ (ls : List Layer) n. ls ++ run_layers clip (x + n) y rest) (byte_layers clip x y style b here wide) wide
    ∙ (ap (λ (ls : List Layer). first ++ ls) (run_spelt clip (x + 1) y style bs more (omega arith) top bottom (omega arith) both.1)
    ∙ (ap (λ n. first ++ (ascii_layers (x + 1) y style bs ++ run_layers clip n y more)) end
    ∙ sym (append_assoc first (ascii_layers (x + 1) y style bs) (run_layers clip (x + length (b ∷ bs)) y more))))

pub run_set : (clip : Rect) (x y n : ℕ) (style : Style) (bs : List ℕ) (gs more : List Glyph) (a b final : Screen) → covers clip x y ≡ true → n ≡ length bs → x + n ≤ right_of clip →
    list_all is_printable bs ≡ true → gs ≡ map (byte_glyph style) bs ++ more →
    Painted (ascii_layers x y style bs) a b → Painted (run_layers clip (x + n) y more) b final → Painted (run_layers clip x y gs) a final
run_set clip x y n style bs gs more a b final here len right e is p q =
    let left : clip.x ≤ x = grind (arith, nat_tests) in
    let top : clip.y ≤ y = grind (arith, nat_tests) in
    let bottom : y < bottom_of clip = grind (arith, nat_tests) in
    let whole = ap (run_layers clip x y) is ∙ run_spelt clip x y style bs more left top bottom (omega (arith, right, len)) e in
    subst (λ (ls : List Layer). Painted ls a final) (sym whole)
    (Painted-then p (subst (λ m. Painted (run_layers clip (x + m) y more) b final) len q))

pub kept_set : (clip : Rect) (x y n : ℕ) (style : Style) (bs : List ℕ) (a b : Screen) → covers clip x y ≡ true → n ≡ length bs → x + n ≤ right_of clip →
    Painted (ascii_layers x y style bs) a b → KeptOutside (covers clip) a b
kept_set clip x y n style bs a b here len right p =
    KeptOutside-weaker (λ u v out. outside u v (length bs) (omega (arith, right, len)) out) (Painted-kept (ascii_stays x y style bs) p)
  where
    outside : (u v m : ℕ) → x + m ≤ right_of clip → covers clip u v ≡ false → in_row x (x + m) y u v ≡ false
    outside u v m le out = grind (arith, nat_tests)
