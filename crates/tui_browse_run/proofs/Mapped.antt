-- Two lists whose elements agree, built one element at a time.
use Rattle.std.proofs.Common.{◌≡◌, ℕ, ◌+◌, ◌<◌, ◌≤◌, List, [], ◌∷◌, ◌++◌, length, take, get_or, map, sym, ap, ap₂, ◌∙◌}
use Rattle.std.proofs.lemmas.List.{map-append, take_all, take_more}

-- one element more
pub map_next : {X Y A : Type 0} (f : X → A) (g : Y → A) (xs new : List X) (ys : List Y) (i : ℕ) (x : X) (d : Y) → map f xs ≡ map g (take i ys) →
    new ≡ xs ++ x ∷ [] → i < length ys → f x ≡ g (get_or ys i d) → map f new ≡ map g (take (i + 1) ys)
map_next {X} {Y} {A} f g xs new ys i x d before new_is below same =
    let left : map f new ≡ map f xs ++ f x ∷ [] = ap (map f) new_is ∙ map-append f xs (x ∷ []) in
    let right : map g (take (i + 1) ys) ≡ map g (take i ys) ++ g (get_or ys i d) ∷ [] =
    ap (map g) (take_more ys i d below) ∙ map-append g (take i ys) (get_or ys i d ∷ []) in
    left ∙ (ap₂ (λ (left : List A) (a : A). left ++ a ∷ []) before same ∙ sym right)

-- all of them
pub map_all : {X Y A : Type 0} (f : X → A) (g : Y → A) (xs : List X) (ys : List Y) (i : ℕ) → map f xs ≡ map g (take i ys) → length ys ≤ i → map f xs ≡ map g ys
map_all f g xs ys i before over = before ∙ ap (map g) (take_all i ys over)
