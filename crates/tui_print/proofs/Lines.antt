-- Numbers with few digits.
use Rattle.std.proofs.Common.{◌≡◌, ℕ, ◌+◌, ◌<◌, ◌≤◌, ◌/◌, ◌%◌, [], ◌∷◌, ◌++◌, decimal, ap, append_assoc, List, ◌∙◌, arith}
use Rattle.std.proofs.lemmas.Fmt.{decimal_digit, decimal_step}

pub one_digit : (n : ℕ) → n < 10 → decimal n ≡ (48 + n) ∷ []
one_digit n less = decimal_digit n less

pub two_digits : (n : ℕ) → 10 ≤ n → n < 100 → decimal n ≡ (48 + n / 10) ∷ (48 + n % 10) ∷ []
two_digits n low high =
    decimal_step n low (omega arith) ∙ ap (λ (l : List ℕ). l ++ (48 + n % 10) ∷ []) (decimal_digit (n / 10) (omega arith))

pub three_digits : (n : ℕ) → 100 ≤ n → n < 1000 → decimal n ≡ (48 + n / 10 / 10) ∷ (48 + n / 10 % 10) ∷ (48 + n % 10) ∷ []
three_digits n low high =
    decimal_step n (omega arith) (omega arith) ∙ ap (λ (l : List ℕ). l ++ (48 + n % 10) ∷ []) (two_digits (n / 10) (omega arith) (omega arith))

-- fields that are appended one after another, with the same byte between them
pub words_of_line : (none first one two three four five all s t n a b f g m e : List ℕ) → none ≡ [] → first ≡ none ++ s → one ≡ first ++ (n ++ t) → two ≡ one ++ (a ++ t) →
    three ≡ two ++ (b ++ t) → four ≡ three ++ (f ++ t) → five ≡ four ++ (g ++ t) → all ≡ five ++ (m ++ e) →
    all ≡ s ++ (n ++ (t ++ (a ++ (t ++ (b ++ (t ++ (f ++ (t ++ (g ++ (t ++ (m ++ e)))))))))))
words_of_line none first one two three four five all s t n a b f g m e p0 p1 p2 p3 p4 p5 p6 p7 = rw (p7, p6, p5, p4, p3, p2, p1, p0) (simp append_assoc)
