-- The index of a text among others, which are compared one after another.
use Rattle.std.proofs.Common.{◌≡◌, ℕ, ◌+◌, ◌<◌, Bool, true, false, List, ◌∷◌, length, get_or, drop, map, cond, Option, Some, String, Global, string_bytes, refl, sym, ap, ◌∙◌, add-one}
use Rattle.std.proofs.Math.Seq.{drop-cons}
use Rattle.std.specs.List.{position_from}
use Rattle.std.specs.Str.{bytes_eq}

-- the index from one of them on
abbrev from : List ℕ → List (String Global) → ℕ → Option ℕ
from text texts i = position_from (λ t. bytes_eq t text) i (map string_bytes (drop i texts))

next : (text : List ℕ) (texts : List (String Global)) (i : ℕ) (s : String Global) → i < length texts → s ≡ get_or texts i s →
    from text texts i ≡ cond (bytes_eq (string_bytes s) text) (Some i) (from text texts (i + 1))
next text texts i s below is =
    let here : drop i texts ≡ s ∷ drop (i + 1) texts = rw (add-one, drop-cons texts i s below, ← is) refl in
    ap (λ (ts : List (String Global)). position_from (λ t. bytes_eq t text) i (map string_bytes ts)) here

pub found : (text bytes : List ℕ) (texts : List (String Global)) (i : ℕ) (s : String Global) (same : Bool) (all : Option ℕ) → i < length texts →
    s ≡ get_or texts i s → all ≡ position_from (λ t. bytes_eq t text) i (map string_bytes (drop i texts)) → bytes ≡ string_bytes s →
    same ≡ bytes_eq bytes text → same ≡ true → Some i ≡ all
found text bytes texts i s same all below is so_far of_s tested yes_same =
    let test : bytes_eq (string_bytes s) text ≡ true = ap (λ (b : List ℕ). bytes_eq b text) (sym of_s) ∙ sym tested ∙ yes_same in
    sym (so_far ∙ next text texts i s below is ∙ ap (λ (b : Bool). cond b (Some i) (from text texts (i + 1))) test)

pub not_found : (text bytes : List ℕ) (texts : List (String Global)) (i : ℕ) (s : String Global) (same : Bool) (all : Option ℕ) → i < length texts →
    s ≡ get_or texts i s → all ≡ position_from (λ t. bytes_eq t text) i (map string_bytes (drop i texts)) → bytes ≡ string_bytes s →
    same ≡ bytes_eq bytes text → same ≡ false → all ≡ position_from (λ t. bytes_eq t text) (i + 1) (map string_bytes (drop (i + 1) texts))
not_found text bytes texts i s same all below is so_far of_s tested other =
    let test : bytes_eq (string_bytes s) text ≡ false = ap (λ (b : List ℕ). bytes_eq b text) (sym of_s) ∙ sym tested ∙ other in
    so_far ∙ next text texts i s below is ∙ ap (λ (b : Bool). cond b (Some i) (from text texts (i + 1))) test
