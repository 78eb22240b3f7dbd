-- A text has at most as many graphemes as bytes, and wraps into at most one line more than it has graphemes.
use Rattle.std.proofs.Common.{◌≡◌, ℕ, zero, suc, ◌+◌, ◌-◌, ◌*◌, ◌≤◌, Bool, true, false, nat_le, List, [], ◌∷◌, ◌++◌}
use Rattle.std.proofs.Common.{length, map, filter, take, drop, sum_by, refl, ap, arith}
use Rattle.std.specs.Str.{chars, chars_after, continuation_len, lead_bits}
use Rattle.std.specs.Prelude.{encode_utf8_all}
use Rattle.std.proofs.lemmas.List.{append-nil, length-map}
use Rattle.unicode_segmentation.specs.Grapheme.{graphemes, is_grapheme_break}
use Rattle.unicode_segmentation.specs.Segments.{Rule, cut, prepend, segments}
use Rattle.tui_cells.specs.declared.style.Style.{Style}
use Rattle.tui_para.specs.Rule.{Rule as Way, ends_piece}
use Rattle.tui_para.specs.declared.wrap.Wrap.{Wrap}
use Rattle.tui_para.specs.Hyphens.{glyph_rule, with_splits, wrap}
use Rattle.tui_para.specs.Places.{line_len, lines_of, wrap_kept}
use Rattle.tui_para.specs.Wrapped.{after_break, not_wider, line_start}
use Rattle.tui_para.specs.WrappedText.{wrap_text}
use Rattle.tui_cells.specs.Style.{no_style, patched}
use Rattle.tui_para.specs.Lines.{glyph_line}
use Rattle.tui_text.specs.Grapheme.{Glyph, glyph_width}
use Rattle.tui_clusters.specs.Shown.{clusters, is_shown}
use Rattle.tui_text.specs.Graphemes.{glyph_in, line_graphemes}
use Rattle.tui_text.specs.Line.{raw_line}
use Rattle.tui_text.specs.declared.alignment.Alignment.{Alignment}
use Rattle.tui_show_run.specs.Demo.Scene.{one_line}

length-chars_after : (n c : ℕ) (bs : List ℕ) → length (chars_after n c bs) ≤ 1 + length bs
length-chars_after zero c [] = omega arith
length-chars_after zero c (b ∷ bs) = omega (arith, length-chars_after (continuation_len b) (lead_bits b) bs)
length-chars_after (suc n) c [] = omega arith
length-chars_after (suc n) c (b ∷ bs) = omega (arith, length-chars_after n (c * 64 + (b - 128)) bs)

length-chars : (bs : List ℕ) → length (chars bs) ≤ length bs
unfolding chars
length-chars [] = omega arith
length-chars (b ∷ bs) = omega (arith, length-chars_after (continuation_len b) (lead_bits b) bs)

length-prepend : (part : List ℕ) (pieces : List (List ℕ)) → length (prepend part pieces) ≤ 1 + length pieces
length-prepend part [] = omega arith
length-prepend part (piece ∷ pieces) = omega arith

length-cut : (rule : Rule) (before cs after : List ℕ) → length (cut rule before cs after) ≤ length cs
unfolding cut
length-cut rule before [] after = omega arith
length-cut rule before (c ∷ cs) after = by_rule (rule (c ∷ before) (cs ++ after)) refl (length-cut rule (c ∷ before) cs after)
  where
    by_rule : (b : Bool) → rule (c ∷ before) (cs ++ after) ≡ b → length (cut rule (c ∷ before) cs after) ≤ length cs →
        length (cut rule before (c ∷ cs) after) ≤ length (c ∷ cs)
    by_rule true e less = rw e (omega arith)
    by_rule false e less = rw e (omega (arith, length-prepend (c ∷ []) (cut rule (c ∷ before) cs after)))

length-graphemes : (text : List ℕ) → length (graphemes true text) ≤ length text
unfolding segments
length-graphemes text =
    let cuts = cut (is_grapheme_break true) [] (chars text) [] in
    omega (arith, length-map cuts encode_utf8_all, length-cut (is_grapheme_break true) [] (chars text) [], length-chars text)

length-filter : {A : Type 0} (test : A → Bool) (xs : List A) → length (filter test xs) ≤ length xs
length-filter test [] = omega arith
length-filter test (x ∷ xs) = grind (arith, length-filter test xs)

length-lines_of : {A : Type 0} (rule : Way A) (n : ℕ) (xs : List A) → length (lines_of rule n xs) ≤ n
length-lines_of rule zero xs = omega arith
length-lines_of rule (suc n) [] = omega arith
length-lines_of rule (suc n) (x ∷ xs) =
    let s = line_start rule.blank rule.trim (x ∷ xs) in
    let k = line_len (ends_piece rule) rule.blank rule.size rule.width s in
    omega (arith, length-lines_of rule n (after_break rule (rule.width - sum_by rule.size (take k s)) (drop k s)))

length-wrap_kept : {A : Type 0} (rule : Way A) (xs : List A) → length (wrap_kept rule xs) ≤ 1 + length xs
length-wrap_kept rule [] = omega arith
length-wrap_kept rule (x ∷ xs) = omega (arith, length-lines_of rule (length (x ∷ xs)) (x ∷ xs))

length-with_splits : (hyphens : Bool) (before gs : List Glyph) → length (with_splits hyphens before gs) ≡ length gs
length-with_splits hyphens before [] = refl
length-with_splits hyphens before (g ∷ gs) = ap suc (length-with_splits hyphens (g ∷ before) gs)

length-wrap : (w : ℕ) (way : Wrap) (xs : List Glyph) → length (wrap w way xs) ≤ 1 + length xs
length-wrap w way xs =
    let kept_xs = not_wider glyph_width w xs in
    let marked = with_splits way.hyphens [] kept_xs in
    omega (
      arith,
      length-map (wrap_kept (glyph_rule w way) marked) (map (λ (p : Glyph × Bool). p.0)),
      length-wrap_kept (glyph_rule w way) marked,
      length-with_splits way.hyphens [] kept_xs,
      length-filter (λ x. nat_le (glyph_width x) w) xs,
    )

length-line_graphemes : (style : Style) (text : List ℕ) → length (line_graphemes style (raw_line text)) ≤ length text
length-line_graphemes style text =
    let glyph = glyph_in (patched (patched style no_style) no_style) in
    let all = append-nil (map glyph (clusters text)) in
    omega (arith, ap length all, length-map (clusters text) glyph, length-filter is_shown (graphemes true text), length-graphemes text)

-- the lines of a text on one line
pub length-wrap_text : (w : ℕ) (way : Wrap) (alignment : Alignment) (text : List ℕ) → length (wrap_text w way alignment (one_line text)) ≤ 1 + length text
length-wrap_text w way alignment text =
    let glyphs = line_graphemes no_style (raw_line text) in
    let lines = wrap w way glyphs in
    let all = append-nil (map (glyph_line alignment) lines) in
    let few = length-wrap w way glyphs in
    omega (arith, ap length all, length-map lines (glyph_line alignment), few, length-line_graphemes no_style text)
