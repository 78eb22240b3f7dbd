-- Strings that `==` calls equal.
use Rattle.std.specs.Cmp.Lexicographic.{pointwise}
use Rattle.std.specs.Prelude.{ℕ, List, Bool, nat_eq}

-- two strings are equal if their bytes are
abbrev pub same_text : List ℕ → List ℕ → Bool
same_text = pointwise nat_eq
