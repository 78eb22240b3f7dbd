-- Numbers in a sequence.
use Rattle.std.proofs.Common.{◌≡◌, ℕ, ◌+◌, ◌%◌, ◌^◌, ◌<◌, Bool, true, List, [], ◌∷◌, ◌++◌, length, refl, sym, ap, ap₂, ◌∙◌, append_assoc, arith}
use Rattle.std.specs.Prelude.{decimal, nat_lt}
use Rattle.std.specs.List.{list_all}
use Rattle.std.proofs.lemmas.Bool.{and_from, and_parts}
use Rattle.std.proofs.lemmas.Bool.Decides.{nat_tests}
use Rattle.std.proofs.lemmas.Fmt.{decimal_by_steps, decimal_injective}
use Rattle.std.proofs.lemmas.List.Folds.{list_all-append}
use Rattle.tui_terminal_laws.proofs.Lists.{Each}
use Rattle.tui_terminal_laws.proofs.Splitting.{Stops, same_rest, split}

abbrev pub is_digit : ℕ → Bool
is_digit b = nat_lt b 58

one_digit : (n : ℕ) → n < 10 → list_all is_digit ((48 + n) ∷ []) ≡ true
one_digit n lt = grind (arith, nat_tests)

both_digits : (s t : List ℕ) → list_all is_digit s ≡ true → list_all is_digit t ≡ true → list_all is_digit (s ++ t) ≡ true
both_digits s t d e = rw (list_all-append is_digit s t, d, e) refl

pub digits_are : (n : ℕ) → n < 2 ^ 64 → list_all is_digit (decimal n) ≡ true
digits_are = decimal_by_steps (λ m ds. list_all is_digit ds ≡ true) (λ m lt. one_digit m lt)
    (λ m ds lt h. both_digits ds _ h (one_digit (m % 10) (omega arith)))

-- numbers, each after a semicolon
abbrev pub texts : List ℕ → List ℕ
texts [] = []
texts (n ∷ ns) = 59 ∷ (decimal n ++ texts ns)

pub texts_both : (ns ms : List ℕ) → texts (ns ++ ms) ≡ texts ns ++ texts ms
texts_both [] ms = refl
texts_both (n ∷ ns) ms = ap (λ (l : List ℕ). 59 ∷ l) (ap (λ (l : List ℕ). decimal n ++ l) (texts_both ns ms) ∙ sym (append_assoc (decimal n) (texts ns) (texts ms)))

stops : (ns : List ℕ) → Stops is_digit (texts ns)
stops [] = tt
stops (n ∷ ns) = refl

pub texts_same : (ns ms : List ℕ) → Each (λ n. n < 2 ^ 64) ns → Each (λ n. n < 2 ^ 64) ms → texts ns ≡ texts ms → ns ≡ ms
texts_same [] [] a b e = refl
texts_same [] (m ∷ ms) a b e = absurd (omega (arith, ap length e))
texts_same (n ∷ ns) [] a b e = absurd (omega (arith, ap length e))
texts_same (n ∷ ns) (m ∷ ms) a b e =
    let both = split is_digit (decimal n) (decimal m) (texts ns) (texts ms) (digits_are n a.0) (digits_are m b.0) (stops ns) (stops ms)
    (same_rest 59 59 (decimal n ++ texts ns) (decimal m ++ texts ms) e) in
    ap₂ (λ (k : ℕ) (l : List ℕ). k ∷ l) (decimal_injective n m a.0 b.0 both.0) (texts_same ns ms a.1 b.1 both.1)

-- a byte that does not end a sequence
abbrev pub is_low : ℕ → Bool
is_low b = nat_lt b 64

digit_low : (b : ℕ) → is_digit b ≡ true → is_low b ≡ true
digit_low b e = grind (arith, nat_tests)

all_low : (ds : List ℕ) → list_all is_digit ds ≡ true → list_all is_low ds ≡ true
all_low [] e = refl
all_low (d ∷ ds) e =
    let both = and_parts (is_digit d) (list_all is_digit ds) e in
    and_from (is_low d) (list_all is_low ds) (digit_low d both.0) (all_low ds both.1)

pub number_low : (n : ℕ) → n < 2 ^ 64 → list_all is_low (decimal n) ≡ true
number_low n small = all_low (decimal n) (digits_are n small)

pub both_low : (s t : List ℕ) → list_all is_low s ≡ true → list_all is_low t ≡ true → list_all is_low (s ++ t) ≡ true
both_low s t d e = rw (list_all-append is_low s t, d, e) refl

pub texts_low : (ns : List ℕ) → Each (λ n. n < 2 ^ 64) ns → list_all is_low (texts ns) ≡ true
texts_low [] h = refl
texts_low (n ∷ ns) h = both_low (decimal n) (texts ns) (number_low n h.0) (texts_low ns h.1)
