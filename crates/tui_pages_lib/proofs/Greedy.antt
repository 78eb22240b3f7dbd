-- Pages that take as much as fits are the only ones of their kind, and no other pages are fewer.
use Rattle.std.proofs.Common.{◌≡◌, ℕ, ◌+◌, ◌<◌, ◌≤◌, List, [], ◌∷◌, ◌++◌, length, refl, sym, ap, ◌∙◌, arith, inl, inr, ⊎_elim, length-append}
use Rattle.std.specs.Prelude.{◌⊎◌, ⊤, sum_by, flat_map}
use Rattle.std.specs.List.{AllByRecursion}
use Rattle.std.proofs.lemmas.List.{append_assoc, append-nil}
use Rattle.std.proofs.lemmas.List.Sums.{sum_by-cons, sum_by-append}

-- two ways to split one list: the first part of one is longer than that of the other, or the other way round
pub two_splits : {A : Type 0} (xs ys us vs : List A) → xs ++ ys ≡ us ++ vs →
    ((r : List A) × (us ≡ xs ++ r) × (ys ≡ r ++ vs)) ⊎ ((p : A) × (r : List A) × (xs ≡ us ++ p ∷ r) × (vs ≡ p ∷ r ++ ys))
two_splits [] ys us vs e = inl (us, refl, e)
two_splits (x ∷ xs) ys [] vs e = inr (x, xs, refl, sym e)
two_splits (x ∷ xs) ys (u ∷ us) vs e =
    let head : x ≡ u = cc in
    let tail : xs ++ ys ≡ us ++ vs = cc in
    ⊎_elim (λ l. inl (l.0, (let k = l.1 in cc), l.2)) (λ r. inr (r.0, r.1, (let k = r.2 in cc), r.3)) (two_splits xs ys us vs tail)

-- what the next page starts with does not fit
abbrev pub Blocked : {A : Type 0} → (A → ℕ) → ℕ → List A → List (List A) → Type 0
Blocked size room page [] = ⊤
Blocked size room page ([] ∷ pages) = ⊤
Blocked size room page ((p ∷ ps) ∷ pages) = room < sum_by size page + size p

abbrev pub Filled : {A : Type 0} → (A → ℕ) → ℕ → List (List A) → Type 0
Filled size room [] = ⊤
Filled size room (page ∷ pages) = (sum_by size page ≤ room) × (0 < length page) × Blocked size room page pages × Filled size room pages

blocked_by : {A : Type 0} (size : A → ℕ) (room : ℕ) (page : List A) (pages : List (List A)) (p : A) (rest : List A)
    → Filled size room pages → Blocked size room page pages → flat_map (λ g. g) pages ≡ p ∷ rest
    → room < sum_by size page + size p
blocked_by size room page [] p rest f b e = absurd (let n = ap length e in omega arith)
blocked_by size room page ([] ∷ pages) p rest f b e = absurd (let n = f.1 in omega arith)
blocked_by size room page ((x ∷ xs) ∷ pages) p rest f b e = let same : x ≡ p = cc in omega (arith, b, ap size same)

-- a page that reaches further than a blocked one is too long
too_far : {A : Type 0} (size : A
    → ℕ) (room : ℕ) (page : List A) (pages : List (List A)) (longer : List A) (x : A) (xs rest : List A)
    → Blocked size room page pages → Filled size room pages → sum_by size longer ≤ room → longer ≡ page ++ x ∷ xs
    → flat_map (λ g. g) pages ≡ x ∷ xs ++ rest → ⊥
too_far size room page pages longer x xs rest b f small e rests =
    omega (arith, blocked_by size room page pages x (xs ++ rest) f b rests, ap (sum_by size) e, sum_by-append size page (x ∷ xs), sum_by-cons size x xs)

same_first : {A : Type 0} (size : A
    → ℕ) (room : ℕ) (p : List A) (pages : List (List A)) (o : List A) (others : List (List A)) (r : List A)
    → Filled size room (p ∷ pages) → Filled size room (o ∷ others) → o ≡ p ++ r
    → flat_map (λ g. g) pages ≡ r ++ flat_map (λ g. g) others
    → (flat_map (λ g. g) pages ≡ flat_map (λ g. g) others → pages ≡ others) → p ∷ pages ≡ o ∷ others
same_first size room p pages o others [] f g longer rest same =
    let tails : pages ≡ others = same rest in
    let heads : o ≡ p = longer ∙ append-nil p in
    cc
same_first size room p pages o others (x ∷ xs) f g longer rest same =
    absurd (too_far size room p pages o x xs (flat_map (λ g. g) others) f.2 f.3 g.0 longer rest)

pub same_filled : {A : Type 0} (size : A → ℕ) (room : ℕ) (pages others : List (List A))
    → Filled size room pages → Filled size room others → flat_map (λ g. g) pages ≡ flat_map (λ g. g) others → pages ≡ others
same_filled size room [] [] f g e = refl
same_filled size room [] (o ∷ others) f g e = absurd (let n = g.1 in omega (arith, ap length e, length-append o (flat_map (λ g. g) others)))
same_filled size room (p ∷ pages) [] f g e = absurd (let n = f.1 in omega (arith, ap length e, length-append p (flat_map (λ g. g) pages)))
same_filled size room (p ∷ pages) (o ∷ others) f g e =
    ⊎_elim
    (λ l. same_first size room p pages o others l.0 f g l.1 l.2 (λ t. same_filled size room pages others f.3 g.3 t))
    (λ r. absurd (too_far size room o others p r.0 r.1 (flat_map (λ g. g) pages) g.2 g.3 f.0 r.2 (r.3)))
    (two_splits p (flat_map (λ g. g) pages) o (flat_map (λ g. g) others) e)

-- the other pages, which first have the elements of `remaining` to give, are not ahead
pub none_fewer : {A : Type 0} (size : A → ℕ) (room : ℕ) (remaining : List A) (pages others : List (List A))
    → Filled size room pages → AllByRecursion (λ o. sum_by size o ≤ room) others
    → flat_map (λ g. g) others ≡ remaining ++ flat_map (λ g. g) pages
    → length pages ≤ length others
none_fewer size room remaining [] others f w e = omega arith
none_fewer size room remaining (p ∷ pages) [] f w e = absurd (let n = f.1 in omega (arith, ap length e, length-append remaining (p ++ flat_map (λ g. g) pages), length-append p (flat_map (λ g. g) pages)))
none_fewer size room remaining (p ∷ pages) (o ∷ others) f w e =
    let regrouped : o ++ flat_map (λ g. g) others ≡ (remaining ++ p) ++ flat_map (λ g. g) pages = e
    ∙ sym (append_assoc remaining p (flat_map (λ g. g) pages)) in
    ⊎_elim
    (λ l. let fewer = none_fewer size room l.0 pages others f.3 w.1 l.2 in omega arith)
    (λ r. absurd (omega (
      arith,
      blocked_by size room p pages r.0 (r.1 ++ flat_map (λ g. g) others) f.3 f.2 r.3,
      w.0,
      ap (sum_by size) r.2,
      sum_by-append size (remaining ++ p) (r.0 ∷ r.1),
      sum_by-append size remaining p,
      sum_by-cons size r.0 r.1,
    )))
    (two_splits o (flat_map (λ g. g) others) (remaining ++ p) (flat_map (λ g. g) pages) regrouped)
