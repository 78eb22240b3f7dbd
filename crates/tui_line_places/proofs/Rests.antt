-- The lines after the first one are those of what is left after it.
use Rattle.std.proofs.Common.{◌≡◌, List, [], ◌∷◌, length, refl, ap, subst, arith}
use Rattle.tui_para.specs.Rule.{Rule}
use Rattle.tui_para.specs.Wrapped.{HasLines}
use Rattle.tui_para.proofs.Greedy.{AllFit, lines_are}
use Rattle.tui_para.proofs.InLine.{HasFirstLine}
use Rattle.tui_para.proofs.Unique.{same_lines, same_next}
use Rattle.tui_line_places.specs.Rests.{FirstThen, lines_after}

no_cons : {A : Type 0} (x : A) (xs : List A) → x ∷ xs ≡ [] → ⊥
no_cons x xs e = cc

module _ {A : Type 0} (rule : Rule A) where
  none_left : (lines : List (List A)) → HasLines rule [] lines → lines ≡ []
  none_left [] h = refl
  none_left (line ∷ lines) h = absurd (h.0 refl)

  left : (rest : List A) (lines : List (List A)) → AllFit rule.size rule.width rest → HasLines rule rest lines → lines ≡ lines_after rule rest
  left [] lines fit h = none_left lines h
  left (x ∷ xs) lines fit h = same_lines rule lines _ (x ∷ xs) (x ∷ xs) refl h (lines_are rule (length (x ∷ xs)) (x ∷ xs) (omega arith) fit)

  by_lines : (x : A) (xs rest : List A) (lines : List (List A)) → AllFit rule.size rule.width rest → HasFirstLine rule (x ∷ xs) rest → HasLines rule (x ∷ xs) lines
      → (first : List A) × (lines ≡ first ∷ lines_after rule rest)
  by_lines x xs rest [] fit f h = absurd (no_cons x xs h)
  by_lines x xs rest (line ∷ lines) fit f (some, after, next, more) =
      let same = same_next rule (x ∷ xs) (x ∷ xs) line _ after rest refl next f.next in
      (line, ap (λ t. line ∷ t) (left rest lines fit (subst (λ r. HasLines rule r lines) same.1 more)))

  pub first_then : (xs rest : List A) → AllFit rule.size rule.width xs → AllFit rule.size rule.width rest → HasFirstLine rule xs rest → FirstThen rule xs rest
  first_then [] rest fit rest_fit f = absurd (f.some refl)
  first_then (x ∷ xs) rest fit rest_fit f =
      let (first, e) = by_lines x xs rest _ rest_fit f (lines_are rule (length (x ∷ xs)) (x ∷ xs) (omega arith) fit) in
      record { first = first; lines_are = e }
