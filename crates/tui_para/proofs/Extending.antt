-- A next line after which something is left stays the next line when more graphemes follow.
use Rattle.std.proofs.Common.{◌≡◌, ℕ, ◌-◌, ◌≤◌, ◌<◌, List, [], ◌∷◌, ◌++◌, Bool, true, false, refl, sym, ap, ◌∙◌, inl, inr, ⊎_elim, arith}
use Rattle.std.specs.Prelude.{◌≢◌, sum_by}
use Rattle.std.proofs.lemmas.List.{append_assoc}
use Rattle.std.proofs.lemmas.List.Sums.{sum_by-cons}
use Rattle.tui_para.specs.Rule.{Rule, ends_piece}
use Rattle.tui_para.specs.Wrapped.{up_to, next_piece, without_blanks, after_break, begins, line_start, BreaksBefore, IsNextWider, IsLine, IsNextLine}
use Rattle.tui_para.proofs.Filled.{append_some}

module _ {A : Type 0} (rule : Rule A) where
  piece-longer : (xs ys : List A) → sum_by rule.size (up_to (ends_piece rule) xs) ≤ sum_by rule.size (up_to (ends_piece rule) (xs ++ ys))
  piece-longer [] ys = omega arith
  piece-longer (x ∷ xs) ys = let s = sum_by-cons rule.size x (up_to (ends_piece rule) xs) in let t = sum_by-cons rule.size x (up_to (ends_piece rule) (xs ++ ys)) in grind (arith, piece-longer xs ys)

  next_piece-longer : (xs ys : List A) → sum_by rule.size (next_piece rule xs) ≤ sum_by rule.size (next_piece rule (xs ++ ys))
  next_piece-longer [] ys = omega arith
  next_piece-longer (x ∷ xs) ys =
      let s = sum_by-cons rule.size x (next_piece rule xs) in let t = sum_by-cons rule.size x (next_piece rule (xs ++ ys)) in
      let u = sum_by-cons rule.size x (up_to (ends_piece rule) xs) in let v = sum_by-cons rule.size x (up_to (ends_piece rule) (xs ++ ys)) in
      grind (arith, next_piece-longer xs ys, piece-longer xs ys)

  without_blanks-append : (xs ys : List A) → without_blanks rule.blank xs ≢ [] → without_blanks rule.blank (xs ++ ys) ≡ without_blanks rule.blank xs ++ ys
  without_blanks-append [] ys some = absurd (some refl)
  without_blanks-append (x ∷ xs) ys some = grind (arith, without_blanks-append xs ys)

  line_start-append : (trim : Bool) (xs ys : List A) → line_start rule.blank trim xs ≢ [] → line_start rule.blank trim (xs ++ ys) ≡ line_start rule.blank trim xs ++ ys
  line_start-append true xs ys some = without_blanks-append xs ys some
  line_start-append false xs ys some = refl

  after_break-append : (room : ℕ) (xs ys : List A) → after_break rule room xs ≢ [] → after_break rule room (xs ++ ys) ≡ after_break rule room xs ++ ys
  after_break-append room [] ys some = absurd (some refl)
  after_break-append room (x ∷ xs) ys some = grind (arith, after_break-append (room - rule.size x) xs ys)

  begins-append : (test : A → Bool) (xs ys : List A) → begins test xs ≡ true → begins test (xs ++ ys) ≡ true
  begins-append test [] ys e = cc
  begins-append test (x ∷ xs) ys e = e

  wide-append : (room : ℕ) (xs ys : List A) → room < sum_by rule.size (next_piece rule xs) → room < sum_by rule.size (next_piece rule (xs ++ ys))
  wide-append room xs ys wide = let longer = next_piece-longer xs ys in omega arith

  before-append : (test : A → Bool) (room : ℕ) (line after ys : List A) → BreaksBefore rule test room line after → BreaksBefore rule test room line (after ++ ys)
  before-append test room line after ys h =
      record { word_before = h.word_before; next = begins-append test after ys h.next; too_wide = wide-append room after ys h.too_wide }

  wider-append : (room : ℕ) (xs ys : List A) → IsNextWider rule.size room xs → IsNextWider rule.size room (xs ++ ys)
  wider-append room [] ys h = absurd h
  wider-append room (x ∷ xs) ys h = h

  line-append : (line after ys : List A) → IsLine rule line after → after ≢ [] → IsLine rule line (after ++ ys)
  line-append line after ys h some = record {
    fits = h.fits;
    breaks = ⊎_elim
        (λ e. absurd (some e))
        (⊎_elim
        (λ s. inr (inl (before-append rule.blank _ line after ys s)))
        (⊎_elim
        (λ s. inr (inr (inl (before-append rule.split _ line after ys s))))
        (λ s. inr (inr (inr (record { one_piece = s.one_piece; too_wide = wider-append _ after ys s.too_wide }))))))
        h.breaks;
  }

  break_leaves : (room : ℕ) (xs : List A) → after_break rule room xs ≢ [] → xs ≢ []
  break_leaves room xs some e = some (rw e refl)

  pub next-append : (xs line rest ys : List A) → IsNextLine rule xs line rest → rest ≢ [] → IsNextLine rule (xs ++ ys) line (rest ++ ys)
  next-append xs line rest ys h some =
      let room = rule.width - sum_by rule.size line in
      let left : after_break rule room h.after ≢ [] = λ e. some (h.rest_is ∙ e) in
      let after = break_leaves room h.after left in
      let begun : line_start rule.blank rule.trim xs ≢ [] = λ e. append_some line h.after after (sym h.joined ∙ e) in
      record {
        after = h.after ++ ys;
        joined = line_start-append rule.trim xs ys begun ∙ (ap (λ k. k ++ ys) h.joined ∙ append_assoc line h.after ys);
        line_is = line-append line h.after ys h.line_is after;
        rest_is = ap (λ k. k ++ ys) h.rest_is ∙ sym (after_break-append room h.after ys left);
      }
