-- Runs of printable bytes in a row.
use Rattle.std.proofs.Common.{◌≡◌, ℕ, ◌+◌, ◌-◌, ◌<◌, ◌≤◌, true, false, nat_le, List, [], ◌∷◌, ◌++◌, flat_map, map, length, Option, None, Some, refl, sym, ap, ap₂, subst, ◌∙◌, arith}
use Rattle.std.specs.Int.Bits.{or_zero_l, xor_self}
use Rattle.std.specs.List.{list_all}
use Rattle.std.specs.Option.{option_or}
use Rattle.std.specs.Prelude.{bit_or, bit_xor}
use Rattle.std.proofs.lemmas.Bool.{and_parts}
use Rattle.std.proofs.lemmas.Bool.Decides.{nat_tests}
use Rattle.std.proofs.lemmas.List.Concat.{flat_map-cons}
use Rattle.std.proofs.lemmas.List.{append_assoc, append-nil, map-append}
use Rattle.tui_cells.specs.declared.rect.Rect.{Rect}
use Rattle.tui_cells.specs.declared.style.Style.{Style}
use Rattle.tui_cells.specs.Buffer.{Screen}
use Rattle.tui_cells.specs.Layers.{KeptOutside, Painted, ascii_layers}
use Rattle.tui_cells.specs.Rect.{bottom_of, covers, right_of}
use Rattle.tui_cells.specs.Style.{no_style, patched}
use Rattle.tui_cells.proofs.Painting.{KeptOutside-weaker, Painted-then}
use Rattle.tui_clusters.specs.Width.{width_of}
use Rattle.tui_text.specs.Grapheme.{Glyph}
use Rattle.tui_clusters.specs.Shown.{clusters, one_byte}
use Rattle.tui_text.specs.Graphemes.{glyph_in, span_graphemes}
use Rattle.tui_text.specs.Painting.{cells_at, column_at, row_part, shown_glyph, shown_glyphs}
use Rattle.tui_clusters.specs.Printable.{is_printable}
use Rattle.tui_text.specs.Row.{InRow, ShownUpTo}
use Rattle.tui_text.specs.Setting.{set_cluster, set_clusters}
use Rattle.tui_text.specs.Span.{SpanData}
use Rattle.tui_clusters.proofs.OneByte.{byte_width}
use Rattle.tui_text.proofs.Runs.{kept_written, set_written}
use Rattle.tui_text.proofs.Settings.{fits, pick_true, set_none}

column_in : (row : Rect) (skip place x : ℕ) → skip ≤ place → x ≡ row.x + (place - skip) → x < right_of row → row.y < bottom_of row →
    column_at row skip place 1 ≡ Some x
column_in row skip place x begun is within low = grind (arith, nat_tests)

shown_byte : (row : Rect) (skip place x b : ℕ) (style : Style) → width_of (b ∷ []) ≡ 1 → column_at row skip place 1 ≡ Some x →
    set_cluster x row.y style (b ∷ []) ≡ shown_glyph row skip place (glyph_in style (b ∷ []))
shown_byte row skip place x b style wide column = rw (wide, column) refl

-- painting bytes whose columns lie in a row is setting them in a room of columns
shown_run : (row : Rect) (skip place x room : ℕ) (style : Style) (run : List ℕ) (more : List Glyph) → list_all is_printable run ≡ true →
    skip ≤ place → x ≡ row.x + (place - skip) → length run ≤ room → x + length run ≤ right_of row → row.y < bottom_of row →
    set_clusters x row.y room style (map one_byte run) ++ shown_glyphs row skip (place + length run) more
    ≡ shown_glyphs row skip place (map (glyph_in style) (map one_byte run) ++ more)
unfolding set_clusters shown_glyphs
shown_run row skip place x room style [] more e begun is le within low =
    ap (λ n. shown_glyphs row skip n more) (let same : place + 0 ≡ place = omega arith in same)
shown_run row skip place x room style (b ∷ bs) more e begun is le within low =
    let both = and_parts (is_printable b) _ e in
    let wide : width_of (b ∷ []) ≡ 1 = byte_width b both.0 in
    let first = set_cluster x row.y style (b ∷ []) in
    let rest = map one_byte bs in
    ap₂ (λ ls n. ls ++ shown_glyphs row skip n more)
    (pick_true (nat_le (width_of (b ∷ [])) room) _ _ (fits (width_of (b ∷ [])) room (omega (arith, wide)))
    ∙ ap (λ n. first ++ set_clusters (x + n) row.y (room - n) style rest) wide)
    (let same : place + length (b ∷ bs) ≡ place + 1 + length bs = omega arith in same)
    ∙ (append_assoc first (set_clusters (x + 1) row.y (room - 1) style rest) (shown_glyphs row skip (place + 1 + length bs) more)
    ∙ ap₂ (λ ls ms. ls ++ ms) (shown_byte row skip place x b style wide (column_in row skip place x begun is (omega arith) low))
    (shown_run row skip (place + 1) (x + 1) (room - 1) style bs more both.1 (omega arith) (omega (arith, is)) (omega arith) (omega arith) low
    ∙ ap (λ n. shown_glyphs row skip (place + n) (map (glyph_in style) rest ++ more)) (sym wide)))

pub painted_run : (row : Rect) (skip place x : ℕ) (style : Style) (run : List ℕ) (more : List Glyph) (a b : Screen) → list_all is_printable run ≡ true →
    InRow row skip place (length run) → x ≡ row.x + (place - skip) → Painted (ascii_layers x row.y style run) a b →
    ShownUpTo row skip place (map (glyph_in style) (map one_byte run) ++ more) (place + length run) more a b
painted_run row skip place x style run more a b e k is p = record {
  done = λ final q. subst (λ ls. Painted ls a final)
      (shown_run row skip place x (length run) style run more e k.begun is (omega arith) (omega (arith, is, k.within)) k.low) (Painted-then bytes q);
}
  where
    bytes : Painted (set_clusters x row.y (length run) style (map one_byte run)) a b
    bytes = set_written x row.y (length run) (length run) style run [] (map one_byte run) a b b (sym (append-nil (map one_byte run))) e (omega arith) refl p
        (set_none (x + length run) row.y (length run - length run) style [] b refl)

first_glyphs : (style : Style) (run : List ℕ) (cs all : List (List ℕ)) (more : List Glyph) → all ≡ map one_byte run ++ cs →
    map (glyph_in style) (map one_byte run) ++ (map (glyph_in style) cs ++ more) ≡ map (glyph_in style) all ++ more
first_glyphs style run cs all more e =
    sym (ap (λ ts. map (glyph_in style) ts ++ more) e ∙ (ap (λ gs. gs ++ more) (map-append (glyph_in style) (map one_byte run) cs)
    ∙ append_assoc (map (glyph_in style) (map one_byte run)) (map (glyph_in style) cs) more))

-- a text's first bytes, and its clusters after them
pub painted_first : (row : Rect) (skip place next : ℕ) (style : Style) (run : List ℕ) (cs all : List (List ℕ)) (a b : Screen) → all ≡ map one_byte run ++ cs →
    ((more : List Glyph) → ShownUpTo row skip place (map (glyph_in style) (map one_byte run) ++ more) next more a b) →
    (more : List Glyph) → ShownUpTo row skip place (map (glyph_in style) all ++ more) next (map (glyph_in style) cs ++ more) a b
painted_first row skip place next style run cs all a b e p more =
    subst (λ gs. ShownUpTo row skip place gs next (map (glyph_in style) cs ++ more) a b) (first_glyphs style run cs all more e)
    (p (map (glyph_in style) cs ++ more))

run_out : (row : Rect) (x n u v : ℕ) → row.x ≤ x → x + n ≤ right_of row → row.y < bottom_of row → row_part row u v ≡ false →
    covers (cells_at x row.y n) u v ≡ false
run_out row x n u v first last low out = grind (arith, nat_tests)

-- bytes whose columns lie in a row change nothing outside it
pub run_kept : (row : Rect) (skip place x : ℕ) (style : Style) (run : List ℕ) (a b : Screen) → InRow row skip place (length run) → x ≡ row.x + (place - skip) →
    Painted (ascii_layers x row.y style run) a b → KeptOutside (row_part row) a b
run_kept row skip place x style run a b k is p =
    KeptOutside-weaker (λ u v out. run_out row x (length run) u v (omega (arith, is)) (omega (arith, is, k.within)) k.low out)
    (kept_written x row.y (length run) style run a b (omega arith) p)

-- one more cluster of a text
pub painted_next : (row : Rect) (skip place next : ℕ) (style : Style) (c : List ℕ) (rest cs : List (List ℕ)) (a b : Screen) → cs ≡ c ∷ rest →
    ((more : List Glyph) → ShownUpTo row skip place (glyph_in style c ∷ more) next more a b) →
    (more : List Glyph) → ShownUpTo row skip place (map (glyph_in style) cs ++ more) next (map (glyph_in style) rest ++ more) a b
painted_next row skip place next style c rest cs a b e p more = rw e (p (map (glyph_in style) rest ++ more))

-- patching the empty style with a style gives that style
or_none : {A : Type 0} (o : Option A) → option_or o None ≡ o
or_none None = refl
or_none (Some x) = refl

bits_alone : (add sub : ℕ) → bit_or (bit_xor (bit_or 0 sub) sub) add ≡ add
bits_alone add sub = rw (or_zero_l sub, xor_self sub, or_zero_l add) refl

unpatched : (s : Style) → patched no_style s ≡ s
unpatched s = rw (or_none s.fg, or_none s.bg, bits_alone s.add_modifier.bits s.sub_modifier.bits, bits_alone s.sub_modifier.bits s.add_modifier.bits) refl

-- one more span of a line
pub painted_span : (row : Rect) (skip place next : ℕ) (s : SpanData) (ss spans : List SpanData) (a b : Screen) → spans ≡ s ∷ ss →
    ((more : List Glyph) → ShownUpTo row skip place (map (glyph_in s.style) (clusters s.content) ++ more) next more a b) →
    ShownUpTo row skip place (flat_map (span_graphemes no_style) spans) next (flat_map (span_graphemes no_style) ss) a b
painted_span row skip place next s ss spans a b e p =
    let rest = flat_map (span_graphemes no_style) ss in
    subst (λ gs. ShownUpTo row skip place gs next rest a b)
    (ap (λ t. map (glyph_in t) (clusters s.content) ++ rest) (sym (unpatched s.style))
    ∙ sym (ap (flat_map (span_graphemes no_style)) e ∙ flat_map-cons (span_graphemes no_style) s ss)) (p rest)
