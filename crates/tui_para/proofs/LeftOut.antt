-- Wrapping drops only whitespace.
use Rattle.std.proofs.Common.{◌≡◌, ℕ, ◌-◌, List, [], ◌∷◌, ◌++◌, Bool, true, false, cond, All, refl, sym, ap, ◌∙◌, ⊎_elim}
use Rattle.std.specs.Prelude.{sum_by, nat_le}
use Rattle.std.proofs.lemmas.Bool.{cases_Bool}
use Rattle.std.proofs.lemmas.List.Elements.{All-cons, All-from_recursion}
use Rattle.tui_para.specs.Rule.{Rule}
use Rattle.tui_para.specs.Wrapped.{without_blanks, after_break, line_start, HasLines, WrapsKept, LeavesOutBlanks}

-- whitespace before what is left of a list
pub record Blanks {A : Type 0} (blank : A → Bool) (xs rest : List A) : Type 0 where
  pub blanks : List A
  pub all : All (λ x. blank x ≡ true) blanks
  pub whole : xs ≡ blanks ++ rest

module _ {A : Type 0} (rule : Rule A) where
  no_blanks : (xs : List A) → Blanks rule.blank xs xs
  no_blanks xs = record { blanks = []; all = All-from_recursion (λ x. rule.blank x ≡ true) [] tt; whole = refl }

  one_blank : (x : A) (xs rest : List A) → rule.blank x ≡ true → Blanks rule.blank xs rest → Blanks rule.blank (x ∷ xs) rest
  one_blank x xs rest b h = record { blanks = x ∷ h.blanks; all = All-cons (λ y. rule.blank y ≡ true) x h.blanks b h.all; whole = ap (λ k. x ∷ k) h.whole }

  before_start : (xs : List A) → Blanks rule.blank xs (without_blanks rule.blank xs)
  before_start [] = no_blanks []
  before_start (x ∷ xs) = ⊎_elim (λ b. rw b (one_blank x xs (without_blanks rule.blank xs) b (before_start xs))) (λ b. rw b (no_blanks (x ∷ xs))) (cases_Bool (rule.blank x))

  pub before_line : (trim : Bool) (xs : List A) → Blanks rule.blank xs (line_start rule.blank trim xs)
  before_line true xs = before_start xs
  before_line false xs = no_blanks xs

  break_blank : (room : ℕ) (x : A) (xs : List A) → rule.blank x ≡ true → Blanks rule.blank xs (after_break rule (room - rule.size x) xs) →
      Blanks rule.blank (x ∷ xs) (cond (nat_le (rule.size x) room) (after_break rule (room - rule.size x) xs) xs)
  break_blank room x xs b h = ⊎_elim
      (λ l. rw l (one_blank x xs (after_break rule (room - rule.size x) xs) b h))
      (λ l. rw l (one_blank x xs xs b (no_blanks xs)))
      (cases_Bool (nat_le (rule.size x) room))

  pub blanks_after_break : (room : ℕ) (xs : List A) → Blanks rule.blank xs (after_break rule room xs)
  blanks_after_break room [] = no_blanks []
  blanks_after_break room (x ∷ xs) = ⊎_elim (λ b. rw b (break_blank room x xs b (blanks_after_break (room - rule.size x) xs))) (λ b. rw b (no_blanks (x ∷ xs))) (cases_Bool (rule.blank x))

  lines_leave : (xs : List A) (lines : List (List A)) → HasLines rule xs lines → LeavesOutBlanks rule.blank xs lines
  lines_leave xs [] h = h
  lines_leave xs (line ∷ lines) (some, rest, next, more) =
      let before = before_line rule.trim xs in
      let after = blanks_after_break (rule.width - sum_by rule.size line) next.after in
      let whole : xs ≡ before.blanks ++ (line ++ (after.blanks ++ rest)) =
      before.whole ∙ ap (λ k. before.blanks ++ k) (next.joined ∙ ap (λ k. line ++ k) (after.whole ∙ ap (λ k. after.blanks ++ k) (sym next.rest_is))) in
      (before.blanks, after.blanks, rest, before.all, after.all, whole, lines_leave rest lines more)

  none_out : All (λ x. rule.blank x ≡ true) []
  none_out = All-from_recursion (λ x. rule.blank x ≡ true) [] tt

  pub leaves_out_blanks : (xs : List A) (lines : List (List A)) → WrapsKept rule xs lines → LeavesOutBlanks rule.blank xs lines
  leaves_out_blanks xs lines h = ⊎_elim
      (λ e. rw (e.0, e.1) ([], [], [], none_out, none_out, refl, refl))
      (λ e. lines_leave xs lines e.1)
      h
