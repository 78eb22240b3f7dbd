-- The first record that is too tall.
use Rattle.std.proofs.Common.{◌≡◌, ℕ, zero, suc, ◌+◌, ◌<◌, ◌≤◌, true, false, List, [], ◌∷◌, length, take, Some, None, refl, ap, ◌∙◌, arith}
use Rattle.std.specs.Prelude.{All, nat_lt, slice_index}
use Rattle.std.specs.List.{position, position_from}
use Rattle.std.proofs.lemmas.Bool.Decides.{nat_tests}
use Rattle.std.proofs.lemmas.Iterator.Adapters.{position_from-zero}
use Rattle.tui_pages_lib.specs.Heights.{IsFirstTooTall, max_lines}

none_from : (heights : List ℕ) (i : ℕ) → All (λ h. h ≤ max_lines) heights → position_from (nat_lt max_lines) i heights ≡ None
none_from [] i bounded = refl
none_from (h ∷ hs) i bounded =
    let first : h ≤ max_lines = bounded 0 0 (omega arith) in
    let short : nat_lt max_lines h ≡ false = grind (arith, nat_tests) in
    rw short (none_from hs (i + 1) (λ k d lt. bounded (suc k) d (omega arith)))

pub none_is : (heights : List ℕ) → All (λ h. h ≤ max_lines) heights → position (nat_lt max_lines) heights ≡ None
none_is heights bounded = position_from-zero (nat_lt max_lines) heights ∙ none_from heights 0 bounded

first_from : (heights : List ℕ) (i place : ℕ) → place < length heights → max_lines < slice_index heights place →
    All (λ h. h ≤ max_lines) (take place heights) → position_from (nat_lt max_lines) i heights ≡ Some (i + place)
first_from [] i place inside taller bounded = absurd (omega arith)
first_from (h ∷ hs) i zero inside taller bounded =
    let tall : nat_lt max_lines h ≡ true = grind (arith, nat_tests) in
    let e : i ≡ i + 0 = omega arith in
    rw tall (ap (λ (n : ℕ). Some n) e)
first_from (h ∷ hs) i (suc place) inside taller bounded =
    let first : h ≤ max_lines = bounded 0 0 (omega arith) in
    let short : nat_lt max_lines h ≡ false = grind (arith, nat_tests) in
    let e : i + 1 + place ≡ i + suc place = omega arith in
    rw short (first_from hs (i + 1) place (omega arith) taller (λ k d lt. bounded (suc k) d (omega arith)) ∙ ap (λ (n : ℕ). Some n) e)

pub first_is : (heights : List ℕ) (place : ℕ) → IsFirstTooTall heights place → position (nat_lt max_lines) heights ≡ Some place
first_is heights place first =
    let e : 0 + place ≡ place = omega arith in
    position_from-zero (nat_lt max_lines) heights
    ∙ (first_from heights 0 place first.inside first.taller first.first ∙ ap (λ (n : ℕ). Some n) e)
