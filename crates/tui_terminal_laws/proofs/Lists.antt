-- Lists by recursion: what holds for each element, and which elements there are.
use Rattle.std.proofs.Common.{◌≡◌, ℕ, zero, suc, ◌<◌, Bool, true, List, [], ◌∷◌, ◌++◌, length, get_or, All, Contains, refl, subst, inl, inr, ◌⊎◌, arith}
use Rattle.std.specs.List.{list_all}
use Rattle.std.proofs.lemmas.Bool.{and_from, and_parts}
use Rattle.std.proofs.lemmas.List.Elements.{All-cons}

-- P holds for each element
abbrev pub Each : {X : Type 0} → (X → Type 0) → List X → Type 0
Each P [] = Unit {0}
Each P (x ∷ xs) = P x × Each P xs

-- one of the elements
abbrev pub In : {X : Type 0} → X → List X → Type 0
In p [] = ⊥
In p (x ∷ xs) = (x ≡ p) ⊎ In p xs

pub Each-append : {X : Type 0} (P : X → Type 0) (xs ys : List X) → Each P xs → Each P ys → Each P (xs ++ ys)
Each-append P [] ys a b = b
Each-append P (x ∷ xs) ys a b = (a.0, Each-append P xs ys a.1 b)

pub Each-weaker : {X : Type 0} (P Q : X → Type 0) → ((x : X) → P x → Q x) → (xs : List X) → Each P xs → Each Q xs
Each-weaker P Q f [] a = tt
Each-weaker P Q f (x ∷ xs) a = (f x a.0, Each-weaker P Q f xs a.1)

pub Each-in : {X : Type 0} (P : X → Type 0) (p : X) (xs : List X) → Each P xs → In p xs → P p
Each-in P p [] a h = absurd h
Each-in P p (x ∷ xs) a (inl e) = subst P e a.0
Each-in P p (x ∷ xs) a (inr h) = Each-in P p xs a.1 h

-- what holds for every member of the list holds for each element
pub Each-of : {X : Type 0} (P : X → Type 0) (xs : List X) → ((p : X) → In p xs → P p) → Each P xs
Each-of P [] f = tt
Each-of P (x ∷ xs) f = (f x (inl refl), Each-of P xs (λ p h. f p (inr h)))

pub In-left : {X : Type 0} (p : X) (xs ys : List X) → In p xs → In p (xs ++ ys)
In-left p [] ys h = absurd h
In-left p (x ∷ xs) ys (inl e) = inl e
In-left p (x ∷ xs) ys (inr h) = inr (In-left p xs ys h)

pub In-right : {X : Type 0} (p : X) (xs ys : List X) → In p ys → In p (xs ++ ys)
In-right p [] ys h = h
In-right p (x ∷ xs) ys h = inr (In-right p xs ys h)

pub Each-all : {X : Type 0} (P : X → Type 0) (xs : List X) → Each P xs → All P xs
Each-all P [] a = λ k d lt. absurd (omega arith)
Each-all P (x ∷ xs) a = All-cons P x xs a.0 (Each-all P xs a.1)

pub All-each : {X : Type 0} (P : X → Type 0) (xs : List X) → All P xs → Each P xs
All-each P [] h = tt
All-each P (x ∷ xs) h = (h 0 x (omega arith), All-each P xs (λ k d lt. h (suc k) d (omega (arith, lt))))

in_at : {X : Type 0} (p : X) (xs : List X) (k : ℕ) → k < length xs → get_or xs k p ≡ p → In p xs
in_at p [] k lt e = absurd (omega arith)
in_at p (x ∷ xs) zero lt e = inl e
in_at p (x ∷ xs) (suc k) lt e = inr (in_at p xs k (omega arith) e)

pub In-from : {X : Type 0} (p : X) (xs : List X) → Contains xs p → In p xs
In-from p xs c = in_at p xs c.0 c.1 c.2

pub In-to : {X : Type 0} (p : X) (xs : List X) → In p xs → Contains xs p
In-to p [] h = absurd h
In-to p (x ∷ xs) (inl e) = (0, omega arith, e)
In-to p (x ∷ xs) (inr h) = let c : Contains xs p = In-to p xs h in (suc c.0, omega (arith, c.1), c.2)

-- a test that each element passes
pub Each-list_all : {X : Type 0} (f : X → Bool) (xs : List X) → list_all f xs ≡ true → Each (λ x. f x ≡ true) xs
Each-list_all f [] e = tt
Each-list_all f (x ∷ xs) e = let h = and_parts (f x) (list_all f xs) e in (h.0, Each-list_all f xs h.1)

pub In-cases : {X : Type 0} (p : X) (xs ys : List X) → In p (xs ++ ys) → In p xs ⊎ In p ys
In-cases p [] ys h = inr h
In-cases p (x ∷ xs) ys (inl e) = inl (inl e)
In-cases p (x ∷ xs) ys (inr h) = elim (In-cases p xs ys h) [ inl a ↦ inl (inr a) | inr b ↦ inr b ]

pub list_all-Each : {X : Type 0} (f : X → Bool) (xs : List X) → Each (λ x. f x ≡ true) xs → list_all f xs ≡ true
list_all-Each f [] a = refl
list_all-Each f (x ∷ xs) a = and_from (f x) (list_all f xs) a.0 (list_all-Each f xs a.1)
