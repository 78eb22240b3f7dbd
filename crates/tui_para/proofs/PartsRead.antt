-- The parts that are left of a text line, when more of it is read and when the next part is found.
use Rattle.std.proofs.Common.{◌≡◌, ℕ, List, [], ◌++◌, Option, Some, None, Bool, false, drop, map, refl, sym, ap, ◌∙◌, subst, inr, ⊎_elim, arith}
use Rattle.std.proofs.lemmas.Bool.{false≢true}
use Rattle.std.proofs.lemmas.List.{append-nil, append_assoc, drop_all, length-map, map-append}
use Rattle.std.specs.List.{between}
use Rattle.std.specs.Prelude.{◌↔◌}
use Rattle.tui_text.specs.Grapheme.{Glyph, glyph_of, glyph_width}
use Rattle.tui_text.specs.declared.grapheme.StyledGrapheme.{StyledGrapheme}
use Rattle.tui_para.specs.Given.{SourceReads}
use Rattle.tui_para.specs.Hyphenation.{after_all, marked_from}
use Rattle.tui_para.specs.Hyphens.{Unsplit, glyph_rule, unsplit}
use Rattle.tui_para.specs.Lines.{IsTakenOf}
use Rattle.tui_para.specs.Marked.{IsLineRange, splits_of, glyphs_of, part_of}
use Rattle.tui_para.specs.Wrapped.{HasLines, not_wider}
use Rattle.tui_para.specs.Wrapping.{SplitPartsWith, FindsPart, HasRead, AreNextBounds, LinesOfRest, PartsWith, glyphs_from}
use Rattle.tui_para.specs.declared.wrap.Wrap.{Wrap}
use Rattle.tui_para.specs.declared.wrapping.breaking.LineBounds.{LineBounds}
use Rattle.tui_para.specs.declared.wrapping.hyphenation.Hyphenation.{Hyphenation}
use Rattle.tui_para.specs.declared.wrapping.marked.Marked.{Marked}
use Rattle.tui_para.specs.declared.wrapping.part.LineRange.{LineRange}
use Rattle.tui_para.specs.declared.wrapping.text_line.TextLine.{TextLine}
use Rattle.tui_para.proofs.Yielding.{first_along, same_lists}
use Rattle.tui_para.proofs.Parts.{between-map, no_lines}
use Rattle.tui_para.proofs.Sources.{not_wider-append, reads_none, reads_then}
use Rattle.tui_para.proofs.WithSplits.{after-append, first_unsplit, glyph_part, marked-append}

-- what holds for some values holds for equal ones
same_rest : (parts : List (List (Glyph × Bool))) (a b : Bool) (w v : ℕ) (way other : Wrap) (xs ys : List (Glyph × Bool)) → a ≡ b → w ≡ v → way ≡ other → xs ≡ ys →
    LinesOfRest a w way xs parts → LinesOfRest b v other ys parts
same_rest parts a b w v way other xs ys new width ways whole h =
    subst (λ k. LinesOfRest k v other ys parts) new (subst (λ n. LinesOfRest a n other ys parts) width (subst (λ k. LinesOfRest a w k ys parts) ways (subst (λ gs. LinesOfRest a w way gs parts) whole h)))

same_has : (parts : List (List (Glyph × Bool))) (w v : ℕ) (way other : Wrap) (xs ys : List (Glyph × Bool)) → w ≡ v → way ≡ other → xs ≡ ys → HasLines (glyph_rule w way) xs parts → HasLines (glyph_rule v other) ys parts
same_has parts w v way other xs ys width ways whole h =
    let has = λ (n : ℕ) (k : Wrap). HasLines (glyph_rule n k) in
    subst (λ n. has n other ys parts) width (subst (λ k. has w k ys parts) ways (subst (λ gs. has w way gs parts) whole h))

-- the parts, if no grapheme is left
module _ {I : Type 0} (s : TextLine I) (old : s.is_new ≡ false) (gone : drop s.place (splits_of s.line) ≡ []) (glyphs : List Glyph) (none : glyphs ≡ []) where
  empty : glyphs_from s s.place glyphs ≡ []
  empty = ap (λ k. k ++ marked_from s.line.hyphenation (not_wider glyph_width s.width glyphs)) gone ∙ ap (λ k. marked_from s.line.hyphenation (not_wider glyph_width s.width k)) none

  split_none : (parts : List (List (Glyph × Bool))) → SplitPartsWith s glyphs parts → parts ≡ []
  split_none parts h = ⊎_elim (λ e. absurd (false≢true (sym old ∙ e.0))) (λ e. no_lines (glyph_rule s.width s.wrap) _ parts empty e.1) h

  pub only_none : (parts : List (List Glyph)) → PartsWith s glyphs parts ↔ (parts ≡ [])
  only_none parts = (
    λ (split, h, e). e ∙ ap unsplit (split_none split h),
    λ e. ([], inr (old, empty), e),
  )

-- the parts of a composer that was just created
pub no_parts : {I : Type 0} (s : TextLine I) → s.is_new ≡ false → splits_of s.line ≡ [] → (glyphs : List Glyph) → glyphs ≡ [] → (parts : List (List Glyph)) → PartsWith s glyphs parts ↔ (parts ≡ [])
no_parts s old none = only_none s old (ap (drop s.place) none ∙ drop_all s.place [] (omega arith))

-- graphemes are read after others, and then more
module _ (w v : ℕ) (b c : Hyphenation) (xs ys : List Glyph) (width : v ≡ w) (goes : c ≡ after_all b (not_wider glyph_width w xs)) where
  more_marked : marked_from b (not_wider glyph_width w xs) ++ marked_from c (not_wider glyph_width v ys) ≡ marked_from b (not_wider glyph_width w (xs ++ ys))
  more_marked =
      let first = not_wider glyph_width w xs in
      ap (λ k. marked_from b first ++ k) (ap (λ n. marked_from c (not_wider glyph_width n ys)) width ∙ ap (λ d. marked_from d (not_wider glyph_width w ys)) goes)
      ∙ (sym (marked-append b first (not_wider glyph_width w ys)) ∙ sym (ap (marked_from b) (not_wider-append glyph_width w xs ys)))

  pub marked_then : (front before after : List (Glyph × Bool)) → before ≡ front ++ marked_from b (not_wider glyph_width w xs) → after ≡ before ++ marked_from c (not_wider glyph_width v ys) →
      after ≡ front ++ marked_from b (not_wider glyph_width w (xs ++ ys))
  marked_then front before after e h =
      h ∙ (ap (λ k. k ++ marked_from c (not_wider glyph_width v ys)) e ∙ (append_assoc front (marked_from b (not_wider glyph_width w xs)) (marked_from c (not_wider glyph_width v ys)) ∙ ap (λ k. front ++ k) more_marked))

  pub after_then : (d : Hyphenation) → d ≡ after_all c (not_wider glyph_width v ys) → d ≡ after_all b (not_wider glyph_width w (xs ++ ys))
  after_then d h =
      h ∙ (ap (λ n. after_all c (not_wider glyph_width n ys)) width ∙ (ap (λ k. after_all k (not_wider glyph_width w ys)) goes
      ∙ (sym (after-append b (not_wider glyph_width w xs) (not_wider glyph_width w ys)) ∙ sym (ap (after_all b) (not_wider-append glyph_width w xs ys)))))

module _ {I : Type 0} (gives : I → Option StyledGrapheme → I → Type 0) where
  -- nothing is read yet
  pub HasRead-none : (s : TextLine I) → HasRead gives s s
  HasRead-none s = record { taken = []; reads = reads_none gives s.source; after = sym (append-nil (drop s.place (splits_of s.line))); goes_on = refl; is_new = refl; width = refl; wrap = refl }

  -- some are read, and then more
  pub HasRead-then : (s t u : TextLine I) → HasRead gives s t → HasRead gives t u → HasRead gives s u
  HasRead-then s t u a b =
      let after = drop u.place (splits_of u.line) in
      let before = drop t.place (splits_of t.line) in
      let front = drop s.place (splits_of s.line) in
      let h = s.line.hyphenation in
      let both = sym (map-append glyph_of a.taken b.taken) in
      record {
        taken = a.taken ++ b.taken;
        reads = reads_then gives s.source t.source u.source a.taken b.taken a.reads b.reads;
        after = subst (λ k. after ≡ front ++ marked_from h (not_wider glyph_width s.width k)) both
            (marked_then s.width t.width h t.line.hyphenation (map glyph_of a.taken) (map glyph_of b.taken) a.width a.goes_on front before after a.after b.after);
        goes_on = subst (λ k. u.line.hyphenation ≡ after_all h (not_wider glyph_width s.width k)) both
            (after_then s.width t.width h t.line.hyphenation (map glyph_of a.taken) (map glyph_of b.taken) a.width a.goes_on u.line.hyphenation b.goes_on);
        is_new = b.is_new ∙ a.is_new;
        width = b.width ∙ a.width;
        wrap = b.wrap ∙ a.wrap;
      }

  module _ (s t : TextLine I) (r : HasRead gives s t) (glyphs : List Glyph) where
    read_from : glyphs_from t t.place glyphs ≡ glyphs_from s s.place (map glyph_of r.taken ++ glyphs)
    read_from = marked_then s.width t.width s.line.hyphenation t.line.hyphenation (map glyph_of r.taken) glyphs r.width r.goes_on
        (drop s.place (splits_of s.line)) (drop t.place (splits_of t.line)) (glyphs_from t t.place glyphs) r.after refl

    -- the parts stay the same
    pub read_parts : (parts : List (List Glyph)) → PartsWith t glyphs parts ↔ PartsWith s (map glyph_of r.taken ++ glyphs) parts
    read_parts parts = (
      λ (split, h, e). (split, same_rest split t.is_new s.is_new t.width s.width t.wrap s.wrap _ _ r.is_new r.width r.wrap read_from h, e),
      λ (split, h, e). (split, same_rest split s.is_new t.is_new s.width t.width s.wrap t.wrap _ _ (sym r.is_new) (sym r.width) (sym r.wrap) (sym read_from) h, e),
    )

  -- the text line has ended
  pub found_none : (s t : TextLine I) → HasRead gives s t → t.source ≡ None → t.is_new ≡ false → drop t.place (splits_of t.line) ≡ [] → FindsPart gives s t None
  found_none s t r ends old gone = record {
    is_part = tt;
    taken = r.taken;
    reads = r.reads;
    first = λ glyphs ended.
        let none = only_none t old gone glyphs (ended ends) in
        first_along None (PartsWith t glyphs) (PartsWith s (map glyph_of r.taken ++ glyphs)) (PartsWith t glyphs) (PartsWith t glyphs) (read_parts s t r glyphs) (same_lists (PartsWith t glyphs))
        (record { yields = (none []).1 refl; takes = λ parts h. ((none parts).0 h, (none []).1 refl) });
    ends = λ e. ends;
  }

  -- the next part of the text line is passed
  module _ (s t u : TextLine I) (p : LineBounds) (part : LineRange) (source : u.source ≡ t.source) (line : u.line ≡ t.line) (width : u.width ≡ t.width) (wrap : u.wrap ≡ t.wrap) (old : u.is_new ≡ false) (place : u.place ≡ p.next)
      (at : part ≡ record { start = p.start; end = p.end; width = p.width }) where
    from : (glyphs : List Glyph) → glyphs_from u u.place glyphs ≡ glyphs_from t p.next glyphs
    from glyphs =
        ap (λ k. drop k (splits_of u.line) ++ marked_from u.line.hyphenation (not_wider glyph_width u.width glyphs)) place
        ∙ (ap (λ (m : Marked). drop p.next (splits_of m) ++ marked_from m.hyphenation (not_wider glyph_width u.width glyphs)) line
        ∙ ap (λ w. drop p.next (splits_of t.line) ++ marked_from t.line.hyphenation (not_wider glyph_width w glyphs)) width)

    left : (glyphs : List Glyph) (parts : List (List Glyph)) → Unsplit (HasLines (glyph_rule t.width t.wrap) (glyphs_from t p.next glyphs)) parts ↔ PartsWith u glyphs parts
    left glyphs parts = (
      λ (split, h, e). (split, inr (old, same_has split t.width u.width t.wrap u.wrap _ _ (sym width) (sym wrap) (sym (from glyphs)) h), e),
      λ (split, h, e). (split, ⊎_elim (λ k. absurd (false≢true (sym old ∙ k.0))) (λ k. same_has split u.width t.width u.wrap t.wrap _ _ width wrap (from glyphs) k.1) h, e),
    )

    seen : between p.start p.end (glyphs_of t.line) ≡ part_of (glyphs_of u.line) part
    seen = ap (λ (m : Marked). between p.start p.end (glyphs_of m)) (sym line) ∙ sym (ap (part_of (glyphs_of u.line)) at)

    shown : map glyph_part (between p.start p.end (splits_of t.line)) ≡ part_of (glyphs_of u.line) part
    shown = sym (between-map glyph_part p.start p.end (splits_of t.line)) ∙ seen

    is_in_line : AreNextBounds t p → IsLineRange (glyphs_of u.line) part
    is_in_line k =
        let long = length-map (splits_of t.line) glyph_part in
        let near = k.within.0 in
        subst (IsLineRange (glyphs_of u.line)) (sym at)
        (subst (λ (m : Marked). IsLineRange (glyphs_of m) (record { start = p.start; end = p.end; width = p.width })) (sym line) (record { order = k.order; within = omega arith; columns = k.columns }))

    pub found_part : HasRead gives s t → AreNextBounds t p → FindsPart gives s u (Some part)
    found_part r k = record {
      is_part = is_in_line k;
      taken = r.taken;
      reads = subst (λ o. SourceReads gives s.source r.taken o) (sym source) r.reads;
      first = λ glyphs ended.
          let has = HasLines (glyph_rule t.width t.wrap) (glyphs_from t p.next glyphs) in
          let first = first_unsplit (Some (between p.start p.end (splits_of t.line))) (SplitPartsWith t glyphs) has (k.first glyphs (λ e. ended (source ∙ e))) in
          subst (λ k. IsTakenOf (Some k) (PartsWith s (map glyph_of r.taken ++ glyphs)) (PartsWith u glyphs)) shown
          (first_along (Some (map glyph_part (between p.start p.end (splits_of t.line)))) (PartsWith t glyphs) (PartsWith s (map glyph_of r.taken ++ glyphs)) (Unsplit has) (PartsWith u glyphs)
          (read_parts s t r glyphs) (left glyphs) first);
      ends = λ e. cc;
    }
