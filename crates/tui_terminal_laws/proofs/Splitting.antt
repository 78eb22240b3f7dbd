-- Lists of bytes with the same beginning.
use Rattle.std.proofs.Common.{◌≡◌, ℕ, Bool, true, false, List, [], ◌∷◌, ◌++◌, length, get_or, drop, refl, sym, ap, ap₂, ◌∙◌, arith}
use Rattle.std.specs.List.{list_all}
use Rattle.std.proofs.lemmas.Bool.{and_parts, true≢false}

-- two lists that are the same have the same first byte and the same rest
pub same_first : (a b : ℕ) (xs ys : List ℕ) → a ∷ xs ≡ b ∷ ys → a ≡ b
same_first a b xs ys e = ap (λ (l : List ℕ). get_or l 0 0) e

pub same_rest : (a b : ℕ) (xs ys : List ℕ) → a ∷ xs ≡ b ∷ ys → xs ≡ ys
same_rest a b xs ys e = ap (λ (l : List ℕ). drop 1 l) e

-- the list does not begin with a byte of this kind
abbrev pub Stops : (ℕ → Bool) → List ℕ → Type 0
Stops f [] = Unit {0}
Stops f (x ∷ xs) = f x ≡ false

goes_on : (f : ℕ → Bool) (b : ℕ) (more rest : List ℕ) → f b ≡ true → Stops f rest → rest ≡ b ∷ more → ⊥
goes_on f b more [] on stops e = absurd (omega (arith, ap length e))
goes_on f b more (x ∷ xs) on stops e = true≢false (sym on ∙ (ap f (sym (same_first x b xs more e)) ∙ stops))

-- so what comes before it is the same in both
pub split : (f : ℕ → Bool) (p q xs ys : List ℕ) → list_all f p ≡ true → list_all f q ≡ true → Stops f xs → Stops f ys → p ++ xs ≡ q ++ ys → (p ≡ q) × (xs ≡ ys)
split f [] [] xs ys a b c d e = (refl, e)
split f [] (y ∷ q) xs ys a b c d e = absurd (goes_on f y (q ++ ys) xs (and_parts (f y) (list_all f q) b).0 c e)
split f (x ∷ p) [] xs ys a b c d e = absurd (goes_on f x (p ++ xs) ys (and_parts (f x) (list_all f p) a).0 d (sym e))
split f (x ∷ p) (y ∷ q) xs ys a b c d e =
    let more = split f p q xs ys (and_parts (f x) (list_all f p) a).1 (and_parts (f y) (list_all f q) b).1 c d (same_rest x y (p ++ xs) (q ++ ys) e) in
    (ap₂ (λ (k : ℕ) (l : List ℕ). k ∷ l) (same_first x y (p ++ xs) (q ++ ys) e) more.0, more.1)
