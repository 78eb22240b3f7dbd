-- The first line that is left of a text line whose beginning was read.
use Rattle.std.proofs.Common.{◌≡◌, ℕ, ◌+◌, ◌<◌, List, [], ◌∷◌, ◌++◌, Option, Some, None, true, false, length, drop, refl, sym, ap, ◌∙◌, subst, inl, inr, ⊎_elim, arith}
use Rattle.std.specs.Prelude.{◌≢◌, ◌⊎◌, IfSome, sum_by}
use Rattle.std.specs.List.{between}
use Rattle.std.proofs.lemmas.Bool.{cases_Bool}
use Rattle.std.proofs.lemmas.List.{append-nil, drop-drop, length-drop}
use Rattle.tui_text.specs.Grapheme.{Glyph, glyph_width}
use Rattle.tui_para.specs.Rule.{Rule}
use Rattle.tui_para.specs.Hyphenation.{marked_from}
use Rattle.tui_para.specs.Hyphens.{glyph_rule}
use Rattle.tui_para.specs.Marked.{splits_of, glyphs_of}
use Rattle.tui_para.specs.Wrapped.{HasLines, IsNextLine, not_wider}
use Rattle.tui_para.specs.Wrapping.{FirstLine, AreNextBounds, glyphs_from}
use Rattle.tui_para.specs.declared.wrapping.breaking.LineBounds.{LineBounds}
use Rattle.tui_para.specs.declared.wrapping.text_line.TextLine.{TextLine}
use Rattle.tui_para.proofs.Extending.{next-append}
use Rattle.tui_para.proofs.Filled.{some_append}
use Rattle.tui_para.proofs.Parts.{between-drop, between-nil, no_lines}
use Rattle.tui_para.proofs.Unique.{same_next}

pub if_some : {A : Type 0} (P Q : A → Type 0) (o : Option A) → ((x : A) → P x → Q x) → IfSome o P → IfSome o Q
if_some P Q None f h = h
if_some P Q (Some x) f h = f x h

-- the lines begin with the next line
line_taken : {A : Type 0} (rule : Rule A) (xs line rest : List A) → xs ≢ [] → IsNextLine rule xs line rest → (lines : List (List A)) →
    HasLines rule xs lines → (more : List (List A)) × (lines ≡ line ∷ more) × HasLines rule rest more
line_taken rule xs line rest some n [] h = absurd (some h)
line_taken rule xs line rest some n (k ∷ lines) h =
    let same = same_next rule xs xs k line h.1 rest refl h.2 n in
    (lines, ap (λ l. l ∷ lines) same.0, subst (λ r. HasLines rule r lines) same.1 h.3)

-- the next line of the graphemes that were read is the next line of all, if it leaves some of them or nothing follows
next_of_all : {A : Type 0} (rule : Rule A) (xs line ys : List A) (next : ℕ) → (next < length xs) ⊎ (ys ≡ []) → IsNextLine rule xs line (drop next xs) →
    IsNextLine rule (xs ++ ys) line (drop next xs ++ ys)
next_of_all rule xs line ys next known n = ⊎_elim
    (λ l. next-append rule xs line (drop next xs) ys n (λ e. (let z = ap length e in let t = length-drop next xs in absurd (omega arith))))
    (λ e. rw e (rw (append-nil xs, append-nil (drop next xs)) n))
    known

module _ {I : Type 0} (s : TextLine I) (glyphs : List Glyph) where
  first_empty : (p : LineBounds) → p ≡ record { start = s.place; end = s.place; next = s.place; width = 0 } → s.is_new ≡ true → glyphs ≡ [] → drop s.place (splits_of s.line) ≡ [] → FirstLine s p glyphs
  first_empty p at new none gone =
      let empty : glyphs_from s s.place glyphs ≡ [] = ap (λ k. k ++ marked_from s.line.hyphenation (not_wider glyph_width s.width glyphs)) gone ∙ ap (λ k. marked_from s.line.hyphenation (not_wider glyph_width s.width k)) none in
      rw at (record {
        yields = λ rest h.
            let ends = no_lines (glyph_rule s.width s.wrap) _ rest empty h in
            inl (new, inl (empty, ap (λ k. k ∷ rest) (between-nil s.place (splits_of s.line)) ∙ ap (λ ks. [] ∷ ks) ends));
        takes = λ parts h. ⊎_elim
            (λ t. ⊎_elim
            (λ k. ([], k.1 ∙ sym (ap (λ l. l ∷ []) (between-nil s.place (splits_of s.line))), empty))
            (λ k. absurd (k.0 empty))
            t.1)
            (λ t. absurd (no_new t.0))
            h;
      })
    where
      no_new : s.is_new ≡ false → ⊥
      no_new e = cc

  module _ (start end next width : ℕ) (l : s.place < length (splits_of s.line))
      (n : IsNextLine (glyph_rule s.width s.wrap) (drop s.place (splits_of s.line)) (between start end (drop s.place (splits_of s.line))) (drop next (drop s.place (splits_of s.line))))
      (known : (next < length (drop s.place (splits_of s.line))) ⊎ (glyphs ≡ [])) where
    pub first_known : FirstLine s (record { start = s.place + start; end = s.place + end; next = s.place + next; width = width }) glyphs
    first_known =
        let all = splits_of s.line in
        let xs = drop s.place all in
        let ys = marked_from s.line.hyphenation (not_wider glyph_width s.width glyphs) in
        let line = between start end xs in
        let has = HasLines (glyph_rule s.width s.wrap) in
        let first : IsNextLine (glyph_rule s.width s.wrap) (xs ++ ys) line (drop next xs ++ ys) =
        next_of_all (glyph_rule s.width s.wrap) xs line ys next (⊎_elim (λ k. inl k) (λ e. inr (ap (λ k. marked_from s.line.hyphenation (not_wider glyph_width s.width k)) e)) known) n in
        let some : xs ≢ [] = λ e. (let z = ap length e in let t = length-drop s.place all in absurd (omega arith)) in
        let more : xs ++ ys ≢ [] = some_append xs ys some in
        let at : between (s.place + start) (s.place + end) all ≡ line = sym (between-drop s.place start end all) in
        let after : drop (s.place + next) all ++ ys ≡ drop next xs ++ ys = ap (λ k. k ++ ys) (sym (drop-drop next s.place all)) in
        record {
          yields = λ rest h.
              let lines : has (xs ++ ys) (between (s.place + start) (s.place + end) all ∷ rest) =
              rw at (more, drop next xs ++ ys, first, subst (λ k. has k rest) after h) in
              ⊎_elim (λ e. inl (e, inr (more, lines))) (λ e. inr (e, lines)) (cases_Bool s.is_new);
          takes = λ parts h.
              let lines : has (xs ++ ys) parts = ⊎_elim (λ t. ⊎_elim (λ k. absurd (more k.0)) (λ k. k.1) t.1) (λ t. t.1) h in
              let taken = line_taken (glyph_rule s.width s.wrap) (xs ++ ys) line (drop next xs ++ ys) more first parts lines in
              (taken.0, taken.1 ∙ ap (λ k. k ∷ taken.0) (sym at), subst (λ k. has k taken.0) (sym after) taken.2);
        }

-- the bounds of the one empty line
pub empty_place : {I : Type 0} (s : TextLine I) (p : LineBounds) → p ≡ record { start = s.place; end = s.place; next = s.place; width = 0 } → s.is_new ≡ true → s.source ≡ None → drop s.place (splits_of s.line) ≡ [] → AreNextBounds s p
empty_place s p at new ends gone = record {
  order = rw at (omega arith);
  within = rw at (s.within, s.within);
  columns = rw at (ap (sum_by glyph_width) (sym (between-nil s.place (glyphs_of s.line))));
  first = λ glyphs ended. first_empty s glyphs p at new (ended ends) gone;
}
