-- Elements of mapped lists, and results that hold of an Ok.
use Rattle.std.proofs.Common.{
  refl,
  take,
  ◌≡◌,
  ℕ,
  ◌+◌,
  ◌<◌,
  ◌≤◌,
  Bool,
  ◌++◌,
  List,
  [],
  ◌∷◌,
  All,
  Result,
  Ok,
  Err,
  OnOk,
  IfOk,
  drop,
  get_or,
  length,
  map,
  nat_lt,
  sum_by,
  true,
  arith,
  ◌∙◌,
  ap,
  sym,
  subst,
  add-one,
  drop-cons,
}
use Rattle.std.proofs.lemmas.List.{map-append, take_more, drop_all, get_or-map, length-map}
use Rattle.std.specs.Cmp.Lexicographic.{pointwise}
use Rattle.std.proofs.lemmas.Bool.{and_parts}
use Rattle.std.proofs.lemmas.Bool.Decides.{nat_tests}
use Rattle.std.proofs.lemmas.List.Elements.{All-get_or}
use Rattle.std.proofs.lemmas.List.Sums.{get_or-le-sum_by}

-- what holds of each mapped element holds of the one at an index
pub seen_at : {A B : Type 0} (f : A → B) (P : B → Type 0) (xs : List A) (i : ℕ) (x d : A) → i < length xs → x ≡ get_or xs i d → All P (map f xs) → P (f x)
seen_at f P xs i x d lt at all =
    subst P (get_or-map f xs i d (f x) lt ∙ sym (ap f at)) (All-get_or P (map f xs) i (f x) (rw (length-map xs f) lt) all)

-- the mapped elements from an index on are the one there and the others
pub seen_from : {A B : Type 0} (f : A → B) (xs : List A) (i : ℕ) (x d : A) → i < length xs → x ≡ get_or xs i d → map f (drop i xs) ≡ f x ∷ map f (drop (i + 1) xs)
seen_from f xs i x d lt at =
    let e : drop i xs ≡ get_or xs i d ∷ drop (i + 1) xs = rw add-one (drop-cons xs i d lt) in
    ap (map f) (e ∙ ap (λ y. y ∷ drop (i + 1) xs) (sym at))

-- the same for elements that are mapped twice
pub seen_twice_from : {A B C : Type 0} (g : B → C) (f : A → B) (xs : List A) (i : ℕ) (x d : A) → i < length xs → x ≡ get_or xs i d →
    map g (map f (drop i xs)) ≡ g (f x) ∷ map g (map f (drop (i + 1) xs))
seen_twice_from g f xs i x d lt at = ap (map g) (seen_from f xs i x d lt at)

-- past the last element there is none
pub none_from : {A : Type 0} (xs : List A) (i : ℕ) → length xs ≤ i → drop i xs ≡ []
none_from xs i le = drop_all i xs le

positive : (m n : ℕ) → m ≤ n → nat_lt 0 m ≡ true → nat_lt 0 n ≡ true
positive m n le e = grind (arith, nat_tests)

-- a sum is above 0 if one of its parts is
pub some_in : {A B : Type 0} (g : B → ℕ) (f : A → B) (xs : List A) (i : ℕ) (d : A) → i < length xs → nat_lt 0 (g (f (get_or xs i d))) ≡ true →
    nat_lt 0 (sum_by g (map f xs)) ≡ true
some_in g f xs i d lt e =
    positive (g (get_or (map f xs) i (f d))) (sum_by g (map f xs)) (get_or-le-sum_by g (map f xs) i (f d) (rw (length-map xs f) lt))
    (rw (get_or-map f xs i d (f d) lt) e)

pub on_ok : {T E P Q : Type 0} (r : Result T E) → (P → Q) → OnOk r P → OnOk r Q
on_ok (Ok x) f p = f p
on_ok (Err e) f p = tt

pub if_ok : {T E : Type 0} {P Q : T → Type 0} (r : Result T E) → ((x : T) → P x → Q x) → IfOk r P → IfOk r Q
if_ok (Ok x) f p = f x p
if_ok (Err e) f p = tt

-- the first mapped elements and one more, whose image is that of the next one
pub seen_more : {A B : Type 0} (f : A → B) (xs ys : List A) (i : ℕ) (x y d : A) → i < length xs → x ≡ get_or xs i d → f y ≡ f x →
    map f ys ≡ map f (take i xs) → map f (ys ++ y ∷ []) ≡ map f (take (i + 1) xs)
seen_more f xs ys i x y d lt at like e =
    let more : map f (take (i + 1) xs) ≡ map f (take i xs) ++ f x ∷ [] =
    ap (map f) (take_more xs i d lt ∙ ap (λ z. take i xs ++ z ∷ []) (sym at)) ∙ map-append f (take i xs) (x ∷ []) in
    map-append f ys (y ∷ []) ∙ (ap (λ zs. zs ++ f y ∷ []) e ∙ (ap (λ z. map f (take i xs) ++ z ∷ []) like ∙ sym more))

-- two lists that are equal element by element, and one more of each
pub pointwise_push : {A : Type 0} (E : A → A → Bool) (xs ys : List A) (x y : A) → pointwise E xs ys ≡ true → E x y ≡ true →
    pointwise E (xs ++ x ∷ []) (ys ++ y ∷ []) ≡ true
pointwise_push E [] [] x y e same = rw same refl
pointwise_push E [] (v ∷ ys) x y e same = cc
pointwise_push E (u ∷ xs) [] x y e same = cc
pointwise_push E (u ∷ xs) (v ∷ ys) x y e same =
    let both = and_parts (E u v) (pointwise E xs ys) e in rw (both.0, pointwise_push E xs ys x y both.1 same) refl
