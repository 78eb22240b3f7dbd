-- Worked examples, checked by computing. A grapheme is a number: 0 is a space, 1 a letter, 2 a wide letter, 3 a space
-- of width 0.
use Rattle.std.proofs.Common.{ℕ, zero, suc, List, [], ◌∷◌, Bool, true, false, replicate}
use Rattle.tui_para.specs.Rule.{Rule}
use Rattle.tui_para.specs.Places.{wrap_kept}
use Rattle.tui_para.specs.Wrapped.{WrapsKept, not_wider}
use Rattle.tui_para.proofs.Greedy.{all_fit-kept, wrap_kept_is}

abbrev is_blank : ℕ → Bool
is_blank zero = true
is_blank (suc zero) = false
is_blank (suc (suc zero)) = false
is_blank (suc (suc (suc n))) = true

abbrev width : ℕ → ℕ
width zero = 1
width (suc zero) = 1
width (suc (suc zero)) = 2
width (suc (suc (suc n))) = 0

abbrev rule_of : ℕ → Bool → Rule ℕ
rule_of w trim = record { blank = is_blank; split = λ n. false; size = width; width = w; trim = trim }

abbrev Rows : ℕ → Bool → List ℕ → List (List ℕ) → Type 0
Rows w trim xs lines = WrapsKept (rule_of w trim) (not_wider width w xs) lines

row_is : (w : ℕ) (trim : Bool) (xs : List ℕ) → Rows w trim xs (wrap_kept (rule_of w trim) (not_wider width w xs))
row_is w trim xs = wrap_kept_is (rule_of w trim) (not_wider width w xs) (all_fit-kept width w xs)

two : Rows 5 true (1 ∷ 1 ∷ 1 ∷ 0 ∷ 1 ∷ 1 ∷ 1 ∷ 1 ∷ 1 ∷ 1 ∷ []) ((1 ∷ 1 ∷ 1 ∷ []) ∷ (1 ∷ 1 ∷ 1 ∷ 1 ∷ 1 ∷ []) ∷ (1 ∷ []) ∷ [])
two = row_is 5 true (1 ∷ 1 ∷ 1 ∷ 0 ∷ 1 ∷ 1 ∷ 1 ∷ 1 ∷ 1 ∷ 1 ∷ [])

two_b : Rows 5 true (1 ∷ 1 ∷ 1 ∷ 1 ∷ 0 ∷ 0 ∷ []) ((1 ∷ 1 ∷ 1 ∷ 1 ∷ []) ∷ [])
two_b = row_is 5 true (1 ∷ 1 ∷ 1 ∷ 1 ∷ 0 ∷ 0 ∷ [])

three : Rows 5 false (0 ∷ 0 ∷ 0 ∷ 1 ∷ 1 ∷ 1 ∷ []) ((0 ∷ 0 ∷ 0 ∷ 1 ∷ 1 ∷ []) ∷ (1 ∷ []) ∷ [])
three = row_is 5 false (0 ∷ 0 ∷ 0 ∷ 1 ∷ 1 ∷ 1 ∷ [])

three_b : Rows 5 true (0 ∷ 0 ∷ 0 ∷ 1 ∷ 1 ∷ 1 ∷ []) ((1 ∷ 1 ∷ 1 ∷ []) ∷ [])
three_b = row_is 5 true (0 ∷ 0 ∷ 0 ∷ 1 ∷ 1 ∷ 1 ∷ [])

four : Rows 20 true (1 ∷ replicate 69 0) ((1 ∷ []) ∷ [] ∷ [])
four = row_is 20 true (1 ∷ replicate 69 0)

four_b : Rows 20 false (1 ∷ replicate 69 0) ((1 ∷ []) ∷ replicate 20 0 ∷ replicate 20 0 ∷ replicate 7 0 ∷ [])
four_b = row_is 20 false (1 ∷ replicate 69 0)

five : Rows 5 false (1 ∷ 1 ∷ 0 ∷ 1 ∷ 2 ∷ []) ((1 ∷ 1 ∷ []) ∷ (1 ∷ 2 ∷ []) ∷ [])
five = row_is 5 false (1 ∷ 1 ∷ 0 ∷ 1 ∷ 2 ∷ [])

five_b : Rows 5 true (1 ∷ 1 ∷ 1 ∷ 1 ∷ 2 ∷ []) ((1 ∷ 1 ∷ 1 ∷ 1 ∷ []) ∷ (2 ∷ []) ∷ [])
five_b = row_is 5 true (1 ∷ 1 ∷ 1 ∷ 1 ∷ 2 ∷ [])

six : Rows 3 true (1 ∷ 1 ∷ 1 ∷ 3 ∷ 1 ∷ 1 ∷ 1 ∷ []) ((1 ∷ 1 ∷ 1 ∷ []) ∷ (1 ∷ 1 ∷ 1 ∷ []) ∷ [])
six = row_is 3 true (1 ∷ 1 ∷ 1 ∷ 3 ∷ 1 ∷ 1 ∷ 1 ∷ [])

six_b : Rows 1 true (2 ∷ 1 ∷ []) ((1 ∷ []) ∷ [])
six_b = row_is 1 true (2 ∷ 1 ∷ [])

six_c : Rows 5 true [] ([] ∷ [])
six_c = row_is 5 true []
