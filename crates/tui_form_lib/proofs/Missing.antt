-- The first index at which a test passes.
use Rattle.std.proofs.Common.{◌≡◌, ℕ, ◌+◌, ◌<◌, ◌≤◌, zero, suc, Bool, true, false, List, [], ◌∷◌, ◌++◌, length, get_or, map, take, Option, None, Some, cond, refl, sym, ap, subst, ◌∙◌, arith}
use Rattle.std.proofs.lemmas.Iterator.Adapters.{position_from-zero}
use Rattle.std.proofs.lemmas.List.{map-append, take_all, take_more}
use Rattle.std.specs.List.{position, position_from}

-- none passes with one more element that does not
none_more_if : (b : Bool) (o p : Option ℕ) (k : ℕ) → cond b (Some k) o ≡ None → (o ≡ None → p ≡ None) → cond b (Some k) p ≡ None
none_more_if true o p k none more = cc
none_more_if false o p k none more = more none

pub none_more : {B : Type 0} (test : B → Bool) (k : ℕ) (ys : List B) (y : B) → position_from test k ys ≡ None → test y ≡ false
    → position_from test k (ys ++ y ∷ []) ≡ None
none_more test k [] y none no_ = rw no_ refl
none_more test k (z ∷ zs) y none no_ =
    none_more_if (test z) (position_from test (k + 1) zs) (position_from test (k + 1) (zs ++ y ∷ [])) k none (λ o. none_more test (k + 1) zs y o no_)

found_if : (b : Bool) (o p : Option ℕ) (k place : ℕ) → cond b (Some k) o ≡ None → (o ≡ None → p ≡ Some place) → cond b (Some k) p ≡ Some place
found_if true o p k place none more = cc
found_if false o p k place none more = more none

-- one passes, and none before it does
pub found : {A B : Type 0} (test : B → Bool) (f : A → B) (k : ℕ) (xs : List A) (i : ℕ) (x : A) → i < length xs → x ≡ get_or xs i x
    → position_from test k (map f (take i xs)) ≡ None → test (f x) ≡ true → position_from test k (map f xs) ≡ Some (k + i)
found test f k [] i x lt is none passes = absurd (omega arith)
found test f k (y ∷ ys) zero x lt is none passes =
    let here : test (f y) ≡ true = ap (λ z. test (f z)) (sym is) ∙ passes in
    let same : k ≡ k + 0 = omega arith in
    rw here (ap (λ n. Some n) same)
found test f k (y ∷ ys) (suc i) x lt is none passes =
    let later : k + 1 + i ≡ k + suc i = omega arith in
    found_if (test (f y)) (position_from test (k + 1) (map f (take i ys))) (position_from test (k + 1) (map f ys)) k (k + suc i) none
    (λ o. found test f (k + 1) ys i x (omega arith) is o passes ∙ ap (λ n. Some n) later)

-- ---- in a loop over a list

pub found_first : {A B : Type 0} (test : B → Bool) (f : A → B) (xs : List A) (i : ℕ) (x : A) → i < length xs → x ≡ get_or xs i x
    → position_from test 0 (map f (take i xs)) ≡ None → test (f x) ≡ true → Some i ≡ position test (map f xs)
found_first test f xs i x lt is none passes =
    let same : 0 + i ≡ i = omega arith in
    sym (position_from-zero test (map f xs) ∙ (found test f 0 xs i x lt is none passes ∙ ap (λ n. Some n) same))

pub none_further : {A B : Type 0} (test : B → Bool) (f : A → B) (xs : List A) (i : ℕ) (x : A) → i < length xs → x ≡ get_or xs i x
    → position_from test 0 (map f (take i xs)) ≡ None → test (f x) ≡ false → position_from test 0 (map f (take (i + 1) xs)) ≡ None
none_further test f xs i x lt is none fails =
    let more : map f (take (i + 1) xs) ≡ map f (take i xs) ++ f x ∷ [] =
    ap (map f) (take_more xs i x lt) ∙ (map-append f (take i xs) (get_or xs i x ∷ []) ∙ ap (λ z. map f (take i xs) ++ f z ∷ []) (sym is)) in
    rw more (none_more test 0 (map f (take i xs)) (f x) none fails)

pub none_at_all : {A B : Type 0} (test : B → Bool) (f : A → B) (xs : List A) (i : ℕ) → length xs ≤ i → position_from test 0 (map f (take i xs)) ≡ None
    → None ≡ position test (map f xs)
none_at_all test f xs i all none =
    let whole = subst (λ ys. position_from test 0 (map f ys) ≡ None) (take_all i xs all) none in
    sym (position_from-zero test (map f xs) ∙ whole)
