-- The derived `==` of colours is exact: it returns true for two of them exactly if they are the same.
use Rattle.std.proofs.Common.{◌≡◌, ℕ, Bool, true, false, ◌&&◌, ◌==◌, List, [], ◌∷◌, refl, sym, ap, subst, ◌∙◌, ◌≢◌, ◌⊎◌, arith}
use Rattle.std.proofs.lemmas.Bool.{cases_Bool, cases_eq}
use Rattle.std.proofs.lemmas.Bool.Decides.{nat_tests}
use mathlib.Core.Bool.{true≢false}
use mathlib.Core.Logic.{inl, inr}
use denote.Struct.Field.{Field}
use denote.Struct.Values.{Values}
use denote.Enum.Compared.{Each, by}
use denote.Enum.Declared.{Choice, values_one}
use Rattle.tui_cells.specs.declared.attributes.Attributes.{Attributes}
use Rattle.tui_cells.specs.declared.color.Color.{Color}
use Rattle.tui_cells.specs.contracts.color.Color.{enum}

-- a test that returns true exactly for equal values
pub record Exact {K : Type 0} (test : K → K → Bool) : Type 0 where
  pub one : (x y : K) → test x y ≡ true → x ≡ y
  pub self : (x : K) → test x x ≡ true

-- the tests of the fields of each variant
abbrev pub Exacts : (Fss : List (List Field)) → Each Bool Fss → Type 0
Exacts [] tests = Unit {0}
Exacts (Fs ∷ Fss) tests = Exact tests.0 × Exacts Fss tests.1

choices_one : (Fss : List (List Field)) (tests : Each Bool Fss) → Exacts Fss tests → (c d : Choice Fss) → by false false Fss tests c d ≡ true → c ≡ d
choices_one [] tests all c d p = absurd c
choices_one (Fs ∷ Fss) tests all (inl x) (inl y) p = ap inl (all.0.one x y p)
choices_one (Fs ∷ Fss) tests all (inl x) (inr y) p = absurd (true≢false (sym p))
choices_one (Fs ∷ Fss) tests all (inr x) (inl y) p = absurd (true≢false (sym p))
choices_one (Fs ∷ Fss) tests all (inr x) (inr y) p = ap inr (choices_one Fss tests.1 all.1 x y p)

choices_self : (Fss : List (List Field)) (tests : Each Bool Fss) → Exacts Fss tests → (c : Choice Fss) → by false false Fss tests c c ≡ true
choices_self [] tests all c = absurd c
choices_self (Fs ∷ Fss) tests all (inl x) = all.0.self x
choices_self (Fs ∷ Fss) tests all (inr x) = choices_self Fss tests.1 all.1 x

-- the tests of a variant without fields, of one byte and of three bytes
abbrev pub no_field : Values [] → Values [] → Bool
no_field x y = true

abbrev pub one_byte : ℕ × Unit {0} → ℕ × Unit {0} → Bool
one_byte x y = x.0 == y.0

abbrev pub three_bytes : ℕ × (ℕ × (ℕ × Unit {0})) → ℕ × (ℕ × (ℕ × Unit {0})) → Bool
three_bytes x y = (x.0 == y.0) && ((x.1.0 == y.1.0) && (x.1.1.0 == y.1.1.0))

no_field_exact : Exact no_field
no_field_exact = record { one = λ x y p. refl; self = λ x. refl }

same_number : (a b : ℕ) → (a == b) ≡ true → a ≡ b
same_number a b p = grind (arith, nat_tests)

own_number : (a : ℕ) → (a == a) ≡ true
own_number a = grind (arith, nat_tests)

same_numbers : (a b c d e f : ℕ) → ((a == d) && ((b == e) && (c == f))) ≡ true → (a ≡ d) × ((b ≡ e) × (c ≡ f))
same_numbers a b c d e f p = (grind (arith, nat_tests), (grind (arith, nat_tests), grind (arith, nat_tests)))

own_numbers : (a b c : ℕ) → ((a == a) && ((b == b) && (c == c))) ≡ true
own_numbers a b c = grind (arith, nat_tests)

one_byte_exact : Exact one_byte
one_byte_exact = record { one = λ x y p i. (same_number x.0 y.0 p i, tt); self = λ x. own_number x.0 }

three_bytes_exact : Exact three_bytes
three_bytes_exact = record {
  one = λ x y p. let h = same_numbers x.0 x.1.0 x.1.1.0 y.0 y.1.0 y.1.1.0 p in λ i. (h.0 i, (h.1.0 i, (h.1.1 i, tt)));
  self = λ x. own_numbers x.0 x.1.0 x.1.1.0;
}

abbrev pub color_tests : Each Bool enum.parts
color_tests = (no_field, (no_field, (no_field, (no_field, (no_field, (no_field, (no_field, (no_field, (no_field, (no_field, (no_field, (no_field, (no_field, (no_field, (no_field, (no_field, (no_field, (three_bytes, (one_byte, tt)))))))))))))))))))

abbrev pub color_eq : Color → Color → Bool
color_eq a b = by false false enum.parts color_tests (enum.as_values a) (enum.as_values b)

color_exacts : Exacts enum.parts color_tests
color_exacts = (no_field_exact, (no_field_exact, (no_field_exact, (no_field_exact, (no_field_exact, (no_field_exact, (no_field_exact, (no_field_exact, (no_field_exact, (no_field_exact, (no_field_exact, (no_field_exact, (no_field_exact, (no_field_exact, (no_field_exact, (no_field_exact, (no_field_exact, (three_bytes_exact, (one_byte_exact, tt)))))))))))))))))))

pub color_eq-one : (a b : Color) → color_eq a b ≡ true → a ≡ b
color_eq-one a b p = values_one enum a b (choices_one enum.parts color_tests color_exacts (enum.as_values a) (enum.as_values b) p)

pub color_eq-self : (a : Color) → color_eq a a ≡ true
color_eq-self a = choices_self enum.parts color_tests color_exacts (enum.as_values a)

color_cases : (a b : Color) → (a ≡ b) ⊎ (a ≢ b)
color_cases a b = elim (cases_Bool (color_eq a b)) [
  | inl holds ↦ inl (color_eq-one a b holds)
  | inr fails ↦ inr (λ e. true≢false (sym (subst (λ (c : Color). color_eq a c ≡ true) e (color_eq-self a)) ∙ fails))
]

-- two attributes are the same, or they are not
pub attributes_cases : (a b : Attributes) → (a ≡ b) ⊎ (a ≢ b)
attributes_cases a b = elim (color_cases a.fg b.fg) [
  | inl fg ↦ elim (color_cases a.bg b.bg) [
    | inl bg ↦ elim (cases_eq a.modifier.bits b.modifier.bits) [
      | inl bits ↦ inl (λ i. record { fg = fg i; bg = bg i; modifier = record { bits = bits i } })
      | inr other ↦ inr (λ e. other (ap (λ (t : Attributes). t.modifier.bits) e))
    ]
    | inr other ↦ inr (λ e. other (ap (λ (t : Attributes). t.bg) e))
  ]
  | inr other ↦ inr (λ e. other (ap (λ (t : Attributes). t.fg) e))
]
