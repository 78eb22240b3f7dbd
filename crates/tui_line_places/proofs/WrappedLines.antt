-- The wrapped lines of a text are those of its first line, then those of the text after it.
use Rattle.std.proofs.Common.{◌≡◌, ℕ, Bool, true, false, cond, List, [], ◌∷◌, ◌++◌, map, filter, append-nil, refl, ap, ap₂, ◌∙◌}
use Rattle.std.specs.List.{concat}
use Rattle.std.specs.Prelude.{nat_le}
use Rattle.std.specs.Str.{IsUtf8}
use Rattle.std.specs.Str.Lines.{lines}
use Rattle.tui_cells.specs.Style.{no_style, patched}
use Rattle.tui_cells.specs.declared.style.Style.{Style}
use Rattle.tui_clusters.specs.Width.{width_of}
use Rattle.tui_text.specs.Grapheme.{Glyph, glyph_width}
use Rattle.tui_clusters.specs.Shown.{clusters, is_shown}
use Rattle.tui_text.specs.Graphemes.{glyph_in, line_graphemes}
use Rattle.tui_text.specs.Line.{raw_line}
use Rattle.tui_text.specs.declared.alignment.Alignment.{Alignment}
use Rattle.unicode_segmentation.specs.Grapheme.{graphemes}
use Rattle.tui_para.specs.Hyphens.{at_blanks, glyph_rule, unsplit, with_splits, wrap}
use Rattle.tui_para.specs.Lines.{GlyphLine, lines_of_each, glyph_line}
use Rattle.tui_para.specs.Places.{wrap_kept}
use Rattle.tui_para.specs.WrappedText.{text_glyph_line}
use Rattle.tui_para.specs.Wrapped.{not_wider}
use Rattle.tui_para.proofs.WithoutSplits.{no_splits, plain, wrap_map}
use Rattle.tui_line_places.specs.AfterLine.{wrapped_lines}
use Rattle.tui_line_places.specs.Places.{text_after_line, line_clusters, shown_in}
use Rattle.tui_line_places.specs.Rests.{cluster_rule}
use Rattle.tui_line_places.proofs.LineClusters.{by_clusters}

module _ {A B : Type 0} (f : A → B) where
  filter-map : (test : B → Bool) (xs : List A) → filter test (map f xs) ≡ map f (filter (λ x. test (f x)) xs)
  filter-map test [] = refl
  filter-map test (x ∷ xs) = ap (λ t. cond (test (f x)) (f x ∷ t) t) (filter-map test xs) ∙ either (test (f x)) (filter (λ y. test (f y)) xs)
    where
      either : (b : Bool) (left : List A) → cond b (f x ∷ map f left) (map f left) ≡ map f (cond b (x ∷ left) left)
      either true left = refl
      either false left = refl

module _ {A B C : Type 0} (f : A → B) (g : B → C) where
  map-map : (xs : List A) → map g (map f xs) ≡ map (λ x. g (f x)) xs
  map-map [] = refl
  map-map (x ∷ xs) = ap (λ t. g (f x) ∷ t) (map-map xs)

module _ {A B : Type 0} (f g : A → B) where
  map-same : ((x : A) → f x ≡ g x) → (xs : List A) → map f xs ≡ map g xs
  map-same e [] = refl
  map-same e (x ∷ xs) = ap₂ (λ y ys. y ∷ ys) (e x) (map-same e xs)

module _ (style : Style) (w : ℕ) (trim : Bool) where
  -- the style of a text's graphemes
  abbrev pub shown_style : Style
  shown_style = patched (patched style no_style) no_style

  abbrev marked : List ℕ → Glyph × Bool
  marked c = plain (glyph_in shown_style c)

  abbrev pub styled : List (List (List ℕ)) → List (List Glyph)
  styled lines = map (map (glyph_in shown_style)) lines

  line_wraps : (line : List ℕ) → wrap w (at_blanks trim) (line_graphemes style (raw_line line)) ≡ styled (wrap_kept (cluster_rule w trim) (filter (λ c. nat_le (width_of c) w) (clusters line)))
  line_wraps line =
      let way = at_blanks trim in
      let fit = filter (λ c. nat_le (width_of c) w) (clusters line) in
      let glyphs : line_graphemes style (raw_line line) ≡ map (glyph_in shown_style) (clusters line) = append-nil (map (glyph_in shown_style) (clusters line)) in
      let fitting : not_wider glyph_width w (line_graphemes style (raw_line line)) ≡ map (glyph_in shown_style) fit = ap (not_wider glyph_width w) glyphs ∙ filter-map (glyph_in shown_style) (λ g. nat_le (glyph_width g) w) (clusters line) in
      let splits : with_splits false [] (not_wider glyph_width w (line_graphemes style (raw_line line))) ≡ map marked fit =
      no_splits [] (not_wider glyph_width w (line_graphemes style (raw_line line))) ∙ ap (map plain) fitting ∙ map-map (glyph_in shown_style) plain fit in
      let wraps : wrap_kept (glyph_rule w way) (map marked fit) ≡ map (map marked) (wrap_kept (cluster_rule w trim) fit) = wrap_map marked (glyph_rule w way) fit in
      ap (λ t. unsplit (wrap_kept (glyph_rule w way) t)) splits
      ∙ ap unsplit wraps
      ∙ map-map (map marked) (map (λ (p : Glyph × Bool). p.0)) (wrap_kept (cluster_rule w trim) fit)
      ∙ map-same (λ line. map (λ (p : Glyph × Bool). p.0) (map marked line)) (map (glyph_in shown_style)) (λ line. map-map marked (λ (p : Glyph × Bool). p.0) line) (wrap_kept (cluster_rule w trim) fit)

  module _ (alignment : Alignment) where
    -- the wrapped lines of a list of text lines
    abbrev pub all_lines : List (List ℕ) → List GlyphLine
    all_lines texts = lines_of_each (λ t. wrap w (at_blanks trim) t.glyphs) (map (text_glyph_line style alignment) (map raw_line texts))

    pub by_first : (text : List ℕ) → IsUtf8 text → wrapped_lines style alignment w trim text
        ≡ map (glyph_line alignment) (styled (wrap_kept (cluster_rule w trim) (shown_in w text))) ++ all_lines (lines (text_after_line text))
    by_first text u =
        let b = by_clusters text u in
        let line = concat (line_clusters (graphemes true text)) in
        ap all_lines b.lines_are
        ∙ ap (λ t. map (glyph_line alignment) t ++ all_lines (lines (text_after_line text)))
        (line_wraps line ∙ ap (λ t. styled (wrap_kept (cluster_rule w trim) (filter (λ c. nat_le (width_of c) w) (filter is_shown t)))) b.line_is)
