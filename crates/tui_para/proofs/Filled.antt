-- Lists that have an item.
use Rattle.std.proofs.Common.{◌≡◌, List, [], ◌∷◌, ◌++◌, refl}
use Rattle.std.specs.Prelude.{◌≢◌}

module _ {A : Type 0} where
  pub no_cons : (x : A) (xs : List A) → [] ≡ x ∷ xs → ⊥
  no_cons x xs e = cc

  pub append_cons : (xs : List A) (y : A) (ys : List A) → xs ++ y ∷ ys ≢ []
  append_cons [] y ys e = cc
  append_cons (x ∷ xs) y ys e = cc

  pub some_append : (xs ys : List A) → xs ≢ [] → xs ++ ys ≢ []
  some_append [] ys some e = some refl
  some_append (x ∷ xs) ys some e = cc

  pub append_some : (xs ys : List A) → ys ≢ [] → xs ++ ys ≢ []
  append_some [] ys some e = some e
  append_some (x ∷ xs) ys some e = cc
