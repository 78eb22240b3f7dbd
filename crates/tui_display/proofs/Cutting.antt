-- Lines, byte by byte.
use Rattle.std.proofs.Common.{◌≡◌, ℕ, ◌+◌, Bool, true, false, ◌==◌, List, [], ◌∷◌, ◌++◌, length, refl, sym, ap, ◌∙◌, arith}
use Rattle.std.proofs.lemmas.List.Splits.{length-slice_split, slice_split-cons_no, slice_split-cons_yes}
use Rattle.std.specs.List.{count_by, onto_first, slice_split}
use Rattle.tui_display.specs.Lines.{IsCut}

-- parts, with a byte appended to the last one
abbrev onto_last : ℕ → List (List ℕ) → List (List ℕ)
onto_last y [] = (y ∷ []) ∷ []
onto_last y (part ∷ []) = (part ++ y ∷ []) ∷ []
onto_last y (part ∷ next ∷ parts) = part ∷ onto_last y (next ∷ parts)

onto_last-append : (y : ℕ) (lines : List (List ℕ)) (line : List ℕ) → onto_last y (lines ++ line ∷ []) ≡ lines ++ (line ++ y ∷ []) ∷ []
onto_last-append y [] line = refl
onto_last-append y (l ∷ []) line = refl
onto_last-append y (l ∷ m ∷ ls) line = ap (λ (k : List (List ℕ)). l ∷ k) (onto_last-append y (m ∷ ls) line)

-- for at least one part
onto_last-cons : (y n : ℕ) (part : List ℕ) (parts : List (List ℕ)) → length parts ≡ n + 1 → onto_last y (part ∷ parts) ≡ part ∷ onto_last y parts
onto_last-cons y n part [] e = absurd (omega (arith, e))
onto_last-cons y n part (l ∷ ls) e = refl

onto_first-last : (x y n : ℕ) (parts : List (List ℕ)) → length parts ≡ n + 1 → onto_first x (onto_last y parts) ≡ onto_last y (onto_first x parts)
onto_first-last x y n [] e = absurd (omega (arith, e))
onto_first-last x y n (l ∷ []) e = refl
onto_first-last x y n (l ∷ m ∷ ls) e = refl

onto_first-append : (x n : ℕ) (parts more : List (List ℕ)) → length parts ≡ n + 1 → onto_first x (parts ++ more) ≡ onto_first x parts ++ more
onto_first-append x n [] more e = absurd (omega (arith, e))
onto_first-append x n (l ∷ ls) more e = refl

-- one more byte, which is appended to the last part
added_at : (p : ℕ → Bool) (x y : ℕ) (xs : List ℕ) (b : Bool) → p x ≡ b → slice_split p (xs ++ y ∷ []) ≡ onto_last y (slice_split p xs) →
    slice_split p (x ∷ (xs ++ y ∷ [])) ≡ onto_last y (slice_split p (x ∷ xs))
added_at p x y xs true e more =
    slice_split-cons_yes p x (xs ++ y ∷ []) e
    ∙ (ap (λ (l : List (List ℕ)). [] ∷ l) more
    ∙ (sym (onto_last-cons y (count_by p xs) [] (slice_split p xs) (length-slice_split p xs)) ∙ ap (onto_last y) (sym (slice_split-cons_yes p x xs e))))
added_at p x y xs false e more =
    slice_split-cons_no p x (xs ++ y ∷ []) e
    ∙ (ap (onto_first x) more
    ∙ (onto_first-last x y (count_by p xs) (slice_split p xs) (length-slice_split p xs) ∙ ap (onto_last y) (sym (slice_split-cons_no p x xs e))))

split_added : (p : ℕ → Bool) (y : ℕ) (xs : List ℕ) → p y ≡ false → slice_split p (xs ++ y ∷ []) ≡ onto_last y (slice_split p xs)
split_added p y [] f = slice_split-cons_no p y [] f
split_added p y (x ∷ xs) f = added_at p x y xs (p x) refl (split_added p y xs f)

-- one more byte, which ends the last part
ended_at : (p : ℕ → Bool) (x y : ℕ) (xs : List ℕ) (b : Bool) → p x ≡ b → slice_split p (xs ++ y ∷ []) ≡ slice_split p xs ++ [] ∷ [] →
    slice_split p (x ∷ (xs ++ y ∷ [])) ≡ slice_split p (x ∷ xs) ++ [] ∷ []
ended_at p x y xs true e more =
    slice_split-cons_yes p x (xs ++ y ∷ []) e
    ∙ (ap (λ (l : List (List ℕ)). [] ∷ l) more ∙ ap (λ (l : List (List ℕ)). l ++ [] ∷ []) (sym (slice_split-cons_yes p x xs e)))
ended_at p x y xs false e more =
    slice_split-cons_no p x (xs ++ y ∷ []) e
    ∙ (ap (onto_first x) more
    ∙ (onto_first-append x (count_by p xs) (slice_split p xs) ([] ∷ []) (length-slice_split p xs)
    ∙ ap (λ (l : List (List ℕ)). l ++ [] ∷ []) (sym (slice_split-cons_no p x xs e))))

split_ended : (p : ℕ → Bool) (y : ℕ) (xs : List ℕ) → p y ≡ true → slice_split p (xs ++ y ∷ []) ≡ slice_split p xs ++ [] ∷ []
split_ended p y [] t = slice_split-cons_yes p y [] t
split_ended p y (x ∷ xs) t = ended_at p x y xs (p x) refl (split_ended p y xs t)

pub cut_first : IsCut [] [] []
cut_first = refl

pub cut_added : (input line : List ℕ) (lines : List (List ℕ)) (b : ℕ) → (b == 10) ≡ false → IsCut input lines line → IsCut (input ++ b ∷ []) lines (line ++ b ∷ [])
cut_added input line lines b other cut = split_added (λ (x : ℕ). x == 10) b input other ∙ (ap (onto_last b) cut ∙ onto_last-append b lines line)

pub cut_ended : (input line : List ℕ) (lines : List (List ℕ)) → IsCut input lines line → IsCut (input ++ 10 ∷ []) (lines ++ line ∷ []) []
cut_ended input line lines cut = split_ended (λ (x : ℕ). x == 10) 10 input refl ∙ ap (λ (l : List (List ℕ)). l ++ [] ∷ []) cut
