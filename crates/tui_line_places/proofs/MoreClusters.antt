-- All lines of a list but the last stay the same when more follows.
use Rattle.std.proofs.Common.{◌≡◌, ℕ, zero, suc, ◌≤◌, ◌<◌, List, [], ◌∷◌, ◌++◌, length, take, refl, ap₂, subst, arith}
use Rattle.std.specs.Prelude.{◌≢◌}
use Rattle.tui_para.specs.Places.{wrap_kept}
use Rattle.tui_para.specs.Rule.{Rule}
use Rattle.tui_para.specs.Wrapped.{HasLines}
use Rattle.tui_para.proofs.Extending.{next-append}
use Rattle.tui_para.proofs.Greedy.{AllFit, lines_are}
use Rattle.tui_para.proofs.Unique.{same_next}

some_front : {A : Type 0} (xs ys : List A) → xs ≢ [] → xs ++ ys ≢ []
some_front [] ys some e = some refl
some_front (x ∷ xs) ys some e = cc

module _ {A : Type 0} (rule : Rule A) where
  -- a line after which something is left stays the same, and so do the first lines if others follow them
  lines-append : (n : ℕ) (xs ys : List A) (lines all : List (List A)) → n < length lines → HasLines rule xs lines → HasLines rule (xs ++ ys) all
      → (take n all ≡ take n lines) × (n ≤ length all)
  lines-append zero xs ys lines all few h g = (refl, omega arith)
  lines-append (suc n) xs ys [] all few h g = absurd (omega arith)
  lines-append (suc n) xs ys (line ∷ []) all few h g = absurd (omega arith)
  lines-append (suc n) xs ys (line ∷ next ∷ lines) [] few h g = absurd (some_front xs ys h.0 g)
  lines-append (suc n) xs ys (line ∷ next ∷ lines) (a ∷ all) few h g =
      let on = next-append rule xs line h.1 ys h.2 h.3.0 in
      let same = same_next rule (xs ++ ys) (xs ++ ys) a line g.1 (h.1 ++ ys) refl g.2 on in
      let rest = lines-append n h.1 ys (next ∷ lines) all (omega arith) h.3 (subst (λ r. HasLines rule r all) same.1 g.3) in
      (ap₂ (λ x xs. x ∷ xs) same.0 rest.0, omega (arith, rest.1))

  pub wrap-append : (n : ℕ) (xs ys : List A) → AllFit rule.size rule.width xs → AllFit rule.size rule.width (xs ++ ys) → n < length (wrap_kept rule xs)
      → (take n (wrap_kept rule (xs ++ ys)) ≡ take n (wrap_kept rule xs)) × (n ≤ length (wrap_kept rule (xs ++ ys)))
  wrap-append zero xs ys fit all_fit few = (refl, omega arith)
  wrap-append (suc n) [] ys fit all_fit few = absurd (omega arith)
  wrap-append (suc n) (x ∷ xs) ys fit all_fit few =
      lines-append (suc n) (x ∷ xs) ys (wrap_kept rule (x ∷ xs)) (wrap_kept rule (x ∷ xs ++ ys)) few
      (lines_are rule (length (x ∷ xs)) (x ∷ xs) (omega arith) fit) (lines_are rule (length (x ∷ xs ++ ys)) (x ∷ xs ++ ys) (omega arith) all_fit)
