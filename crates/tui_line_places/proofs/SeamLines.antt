-- A text that ends between two printable characters keeps all its lines but the last when more text follows.
use Rattle.std.proofs.Common.{
  ◌≡◌,
  ℕ,
  suc,
  ◌+◌,
  ◌-◌,
  ◌==◌,
  ◌<◌,
  Bool,
  true,
  cond,
  ◌||◌,
  List,
  [],
  ◌∷◌,
  ◌++◌,
  length,
  map,
  take,
  filter,
  slice_index,
  get_or-append-add,
  length-append,
  refl,
  sym,
  ap,
  ap₂,
  ◌∙◌,
  subst,
  arith,
  inl,
  inr,
  ⊎_elim,
  eqb-true,
  append-nil,
}
use Rattle.std.specs.List.{concat, list_any}
use Rattle.std.specs.Prelude.{◌⊎◌, nat_le}
use Rattle.std.specs.Str.{IsUtf8}
use Rattle.std.specs.Str.Lines.{lines}
use Rattle.std.proofs.lemmas.Bool.{cases_Bool, cases_lt, false≢true}
use Rattle.std.proofs.lemmas.List.{append_assoc, length-map, length-take-le, take-append-le, take-map}
use Rattle.std.proofs.lemmas.List.Elements.{filter-append}
use Rattle.std.proofs.Math.Seq.{drop-append_seam, take-append-add, take-append_seam}
use Rattle.tui_cells.specs.declared.style.Style.{Style}
use Rattle.tui_para.specs.Lines.{GlyphLine, glyph_line}
use Rattle.tui_para.specs.Places.{wrap_kept}
use Rattle.tui_para.proofs.Greedy.{AllFit, all_fit-kept}
use Rattle.tui_clusters.specs.Width.{width_of}
use Rattle.tui_clusters.specs.Shown.{is_shown}
use Rattle.tui_text.specs.Graphemes.{glyph_in}
use Rattle.tui_clusters.specs.Printable.{is_printable}
use Rattle.tui_text.specs.Text.{text_lines}
use Rattle.tui_text.specs.declared.alignment.Alignment.{Alignment}
use Rattle.tui_clusters.proofs.Seams.{graphemes-seam, printable_seam}
use Rattle.unicode_segmentation.specs.Grapheme.{graphemes}
use Rattle.tui_line_places.specs.AfterLine.{wrapped_lines}
use Rattle.tui_line_places.specs.Parts.{EndsBetweenPrintable, EndsInNewline, HaveSameLines, IsBetweenPrintable}
use Rattle.tui_line_places.specs.Places.{text_after_line, line_clusters, shown_in}
use Rattle.tui_line_places.specs.Rests.{cluster_rule}
use Rattle.tui_line_places.proofs.AfterLine.{has_line}
use Rattle.tui_line_places.proofs.FirstPart.{newline_lines, same_lines}
use Rattle.tui_line_places.proofs.LineClusters.{NoNewline, all_of_it, at_newline, no_newline_in}
use Rattle.tui_line_places.proofs.MoreClusters.{wrap-append}
use Rattle.tui_line_places.proofs.NewLines.{OneLine, is_newline_byte}
use Rattle.tui_line_places.proofs.WrappedLines.{all_lines, by_first, shown_style, styled}

-- clusters without a newline are in the first line, whatever follows
line_clusters-append : (ps qs : List (List ℕ)) → NoNewline ps → line_clusters (ps ++ qs) ≡ ps ++ line_clusters qs
line_clusters-append [] qs h = refl
line_clusters-append (p ∷ ps) qs h = ap (λ b. cond b [] (p ∷ line_clusters (ps ++ qs))) h.0 ∙ ap (λ t. p ∷ t) (line_clusters-append ps qs h.1)

-- the clusters of a text are those of its two parts, one after the other
abbrev ArePartsClusters : List ℕ → List ℕ → Type 0
ArePartsClusters part more = graphemes true (part ++ more) ≡ graphemes true part ++ graphemes true more

shown-append : (w : ℕ) (part more : List ℕ) → IsUtf8 part → OneLine part → ArePartsClusters part more
    → shown_in w (part ++ more) ≡ shown_in w part ++ shown_in w more
shown-append w part more u one e =
    let gs = graphemes true part in
    let hs = graphemes true more in
    let no = no_newline_in part u one in
    let fits = λ (c : List ℕ). nat_le (width_of c) w in
    let line : line_clusters (graphemes true (part ++ more)) ≡ line_clusters gs ++ line_clusters hs =
    ap line_clusters e ∙ (line_clusters-append gs hs no ∙ ap (λ t. t ++ line_clusters hs) (sym (all_of_it gs no).0)) in
    ap (λ t. filter fits (filter is_shown t)) line
    ∙ (ap (filter fits) (filter-append is_shown (line_clusters gs) (line_clusters hs))
    ∙ filter-append fits (filter is_shown (line_clusters gs)) (filter is_shown (line_clusters hs)))

module _ (style : Style) (w : ℕ) (trim : Bool) (alignment : Alignment) where
  abbrev lines_in : List ℕ → List GlyphLine
  lines_in text = wrapped_lines style alignment w trim text

  abbrev shown_lines : List (List (List ℕ)) → List GlyphLine
  shown_lines ls = map (glyph_line alignment) (styled style w trim ls)

  shown_lines-length : (ls : List (List (List ℕ))) → length (shown_lines ls) ≡ length ls
  shown_lines-length ls = length-map (styled style w trim ls) (glyph_line alignment) ∙ length-map ls (map (glyph_in (shown_style style w trim)))

  shown_lines-take : (n : ℕ) (ls : List (List (List ℕ))) → take n (shown_lines ls) ≡ shown_lines (take n ls)
  shown_lines-take n ls =
      take-map (glyph_line alignment) n (styled style w trim ls) ∙ ap (map (glyph_line alignment)) (take-map (map (glyph_in (shown_style style w trim))) n ls)

  -- for one text line
  one_line : (n : ℕ) (part more : List ℕ) → IsUtf8 part → IsUtf8 (part ++ more) → OneLine part → ArePartsClusters part more → n < length (lines_in part)
      → take n (lines_in (part ++ more)) ≡ take n (lines_in part)
  one_line n part more u v one e few =
      let R = cluster_rule w trim in
      let xs = shown_in w part in
      let ys = shown_in w more in
      let others = all_lines style w trim alignment (lines (text_after_line (part ++ more))) in
      let alone : lines_in part ≡ shown_lines (wrap_kept R xs) =
      by_first style w trim alignment part u
      ∙ (ap (λ t. shown_lines (wrap_kept R xs) ++ all_lines style w trim alignment (lines (concat t)))
      (all_of_it (graphemes true part) (no_newline_in part u one)).1
      ∙ append-nil (shown_lines (wrap_kept R xs))) in
      let both : lines_in (part ++ more) ≡ shown_lines (wrap_kept R (xs ++ ys)) ++ others =
      by_first style w trim alignment (part ++ more) v ∙ ap (λ t. shown_lines (wrap_kept R t) ++ others) (shown-append w part more u one e) in
      let fit = all_fit-kept width_of w (filter is_shown (line_clusters (graphemes true part))) in
      let all_fit : AllFit width_of w (xs ++ ys) =
      subst (AllFit width_of w) (shown-append w part more u one e) (all_fit-kept width_of w (filter is_shown (line_clusters (graphemes true (part ++ more))))) in
      let size = ap length alone ∙ shown_lines-length (wrap_kept R xs) in
      let same = wrap-append R n xs ys fit all_fit (omega (arith, few, size)) in
      let long = shown_lines-length (wrap_kept R (xs ++ ys)) in
      ap (take n) both
      ∙ (take-append-le n (shown_lines (wrap_kept R (xs ++ ys))) others (omega (arith, same.1, long))
      ∙ (shown_lines-take n (wrap_kept R (xs ++ ys)) ∙ (ap shown_lines same.0 ∙ (sym (shown_lines-take n (wrap_kept R xs)) ∙ sym (ap (take n) alone)))))

  take-append : (n : ℕ) (xs ys zs : List GlyphLine) → take (n - length xs) ys ≡ take (n - length xs) zs → take n (xs ++ ys) ≡ take n (xs ++ zs)
  take-append n xs ys zs e =
      elim (cases_lt n (length xs)) [
        | inl less ↦ take-append-le n xs ys (omega arith) ∙ sym (take-append-le n xs zs (omega arith))
        | inr more ↦
            let k : n ≡ length xs + (n - length xs) = omega arith in
            ap (λ m. take m (xs ++ ys)) k
            ∙ (take-append-add xs ys (n - length xs) ∙ (ap (λ t. xs ++ t) e
            ∙ (sym (take-append-add xs zs (n - length xs)) ∙ sym (ap (λ m. take m (xs ++ zs)) k))))
      ]

  -- for the line after a newline, and so for the whole
  lines_after_newline : (n : ℕ) (front part more : List ℕ) → lines_in part ≡ all_lines style w trim alignment (lines part)
      → lines_in (part ++ more) ≡ all_lines style w trim alignment (lines (part ++ more))
      → take (n - length (lines_in (front ++ 10 ∷ []))) (lines_in (part ++ more)) ≡ take (n - length (lines_in (front ++ 10 ∷ []))) (lines_in part)
      → take n (lines_in (front ++ 10 ∷ (part ++ more))) ≡ take n (lines_in (front ++ 10 ∷ part))
  lines_after_newline n front part more e f same =
      let above = lines_in (front ++ 10 ∷ []) in
      ap (take n) (newline_lines style w trim alignment front (part ++ more) ∙ ap (λ t. above ++ t) (sym f))
      ∙ (take-append n above (lines_in (part ++ more)) (lines_in part) same
      ∙ sym (ap (take n) (newline_lines style w trim alignment front part ∙ ap (λ t. above ++ t) (sym e))))

some_lines : (text : List ℕ) → 0 < length text → text_lines text ≡ lines text
some_lines [] h = absurd (omega arith)
some_lines (x ∷ text) h = refl

-- the text is one line, or ends with a line that comes after a newline
abbrev HasLast : List ℕ → Type 0
HasLast text = OneLine text ⊎ ((front : List ℕ) × (line : List ℕ) × (text ≡ front ++ 10 ∷ line) × OneLine line)

has_last : (text : List ℕ) → HasLast text
has_last [] = inl refl
has_last (b ∷ text) =
    ⊎_elim
    (λ one. ⊎_elim
    (λ t. inr ([], text, ap (λ x. x ∷ text) (eqb-true b 10 t), one))
    (λ t. inl (ap (λ x. x || list_any is_newline_byte text) t ∙ one))
    (cases_Bool (b == 10)))
    (λ h. inr (b ∷ h.0, h.1, ap (λ x. b ∷ x) h.2, h.3))
    (has_last text)

-- a byte past the end is not printable
within : (part more : List ℕ) → is_printable (slice_index (part ++ more) (length part)) ≡ true → length part < length (part ++ more)
within [] [] e = cc
within [] (b ∷ more) e = omega arith
within (b ∷ part) more e = let rest = within part more e in omega arith

clusters_of_parts : (part more : List ℕ) → IsUtf8 (part ++ more) → 0 < length part → IsBetweenPrintable (part ++ more) (length part) → ArePartsClusters part more
clusters_of_parts part more u some s =
    graphemes-seam (part ++ more) (length part) u (printable_seam (part ++ more) (length part) u some (within part more s.after) s.before s.after)
    ∙ ap₂ (λ a b. graphemes true a ++ graphemes true b) (take-append_seam part more) (drop-append_seam part more)

-- a line that ends between two printable characters has some bytes
seam_in_line : (front line more : List ℕ) → IsBetweenPrintable (front ++ 10 ∷ (line ++ more)) (length (front ++ 10 ∷ line))
    → (0 < length line) × IsBetweenPrintable (line ++ more) (length line)
seam_in_line front [] more s =
    let k : length (front ++ 10 ∷ []) - 1 ≡ length front + 0 = omega (arith, length-append front (10 ∷ [])) in
    let newline : slice_index (front ++ 10 ∷ more) (length (front ++ 10 ∷ []) - 1) ≡ 10 =
    ap (λ i. slice_index (front ++ 10 ∷ more) i) k ∙ get_or-append-add front (10 ∷ more) 0 0 in
    absurd (false≢true (ap is_printable (sym newline) ∙ s.before))
seam_in_line front (x ∷ xs) more s =
    let line = x ∷ xs in
    let m = length xs in
    let size = length-append front (10 ∷ line) in
    let i : length (front ++ 10 ∷ line) - 1 ≡ length front + suc m = omega arith in
    let j : length (front ++ 10 ∷ line) ≡ length front + suc (suc m) = omega arith in
    let last : m ≡ length line - 1 = omega arith in
    let before : slice_index (front ++ 10 ∷ (line ++ more)) (length (front ++ 10 ∷ line) - 1) ≡ slice_index (line ++ more) (length line - 1) =
    ap (λ k. slice_index (front ++ 10 ∷ (line ++ more)) k) i
    ∙ (get_or-append-add front (10 ∷ (line ++ more)) (suc m) 0 ∙ ap (λ k. slice_index (line ++ more) k) last) in
    let after : slice_index (front ++ 10 ∷ (line ++ more)) (length (front ++ 10 ∷ line)) ≡ slice_index (line ++ more) (suc m) =
    ap (λ k. slice_index (front ++ 10 ∷ (line ++ more)) k) j ∙ get_or-append-add front (10 ∷ (line ++ more)) (suc (suc m)) 0 in
    (omega arith, record { before = ap is_printable (sym before) ∙ s.before; after = ap is_printable (sym after) ∙ s.after })

module _ (style : Style) (w : ℕ) (trim : Bool) (alignment : Alignment) (n : ℕ) where
  abbrev lines_here : List ℕ → List GlyphLine
  lines_here text = wrapped_lines style alignment w trim text

  lines_after_front : (front line more : List ℕ) → IsUtf8 (front ++ 10 ∷ line) → IsUtf8 (front ++ 10 ∷ (line ++ more)) → OneLine line
      → IsBetweenPrintable (front ++ 10 ∷ (line ++ more)) (length (front ++ 10 ∷ line)) → n < length (lines_here (front ++ 10 ∷ line))
      → take n (lines_here (front ++ 10 ∷ (line ++ more))) ≡ take n (lines_here (front ++ 10 ∷ line))
  lines_after_front front line more u v one s few =
      let above = lines_here (front ++ 10 ∷ []) in
      let here = (at_newline front line u).1 in
      let both = (at_newline front (line ++ more) v).1 in
      let (some, seam) = seam_in_line front line more s in
      let clusters = clusters_of_parts line more both some seam in
      let line_is : lines_here line ≡ all_lines style w trim alignment (lines line) = ap (all_lines style w trim alignment) (some_lines line some) in
      let both_are : lines_here (line ++ more) ≡ all_lines style w trim alignment (lines (line ++ more)) =
      ap (all_lines style w trim alignment) (some_lines (line ++ more) (omega (arith, length-append line more))) in
      let all : lines_here (front ++ 10 ∷ line) ≡ above ++ lines_here line =
      newline_lines style w trim alignment front line ∙ ap (λ t. above ++ t) (sym line_is) in
      let size = ap length all ∙ length-append above (lines_here line) in
      let less : n - length above < length (lines_here line) = omega (arith, few, size, has_line style alignment w trim line here) in
      lines_after_newline style w trim alignment n front line more line_is both_are
      (one_line style w trim alignment (n - length above) line more here both one clusters less)

  seam_lines : (part more : List ℕ) → IsUtf8 part → IsUtf8 (part ++ more) → 0 < length part → IsBetweenPrintable (part ++ more) (length part) → n < length (lines_here part)
      → take n (lines_here (part ++ more)) ≡ take n (lines_here part)
  seam_lines part more u v some s few = ⊎_elim
      (λ one. one_line style w trim alignment n part more u v one (clusters_of_parts part more v some s) few)
      (λ (front, line, e, one).
      let whole : part ++ more ≡ front ++ 10 ∷ (line ++ more) = ap (λ t. t ++ more) e ∙ append_assoc front (10 ∷ line) more in
      ap (λ t. take n (lines_here t)) whole
      ∙ (lines_after_front front line more (subst IsUtf8 e u) (subst IsUtf8 whole v) one (subst (λ t. IsBetweenPrintable t (length (front ++ 10 ∷ line))) whole
      (subst (λ t. IsBetweenPrintable (part ++ more) (length t)) e s)) (subst (λ t. n < length (lines_here t)) e few)
      ∙ sym (ap (λ t. take n (lines_here t)) e)))
      (has_last part)

-- for a prefix that ends in one of the two ways
pub cut_lines : (w : ℕ) (trim : Bool) (n end : ℕ) (text part more : List ℕ) → IsUtf8 text → IsUtf8 part → part ≡ take end text → text ≡ part ++ more
    → EndsInNewline (take end text) ⊎ EndsBetweenPrintable text end → ((style : Style) (alignment : Alignment) → n < length (wrapped_lines style alignment w trim part))
    → HaveSameLines w trim n text part
cut_lines w trim n end text part more u v front whole cut many = ⊎_elim
    (λ newline. same_lines w trim n text part more whole (subst EndsInNewline (sym front) newline)
    (λ style alignment. let m = many style alignment in omega arith))
    (λ (some, within, seam). λ style alignment.
    let place : end ≡ length part = sym (ap length front ∙ length-take-le end text (omega arith)) in
    let here : IsBetweenPrintable (part ++ more) (length part) = subst (λ t. IsBetweenPrintable t (length part)) whole (subst (IsBetweenPrintable text) place seam) in
    sym (ap (λ t. take n (wrapped_lines style alignment w trim t)) whole
    ∙ seam_lines style w trim alignment n part more v (subst IsUtf8 whole u) (omega arith) here (many style alignment)))
    cut
