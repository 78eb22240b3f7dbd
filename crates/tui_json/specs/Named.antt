-- Enums by the names of their variants, and the law that parsing such a name gives the variant.
use Rattle.std.specs.Prelude.{◌≡◌, ◌≢◌, ℕ, List, [], ◌∷◌, ◌++◌, codes, map, Bool, true, false, Option, Some, None, option_and_then, Result, Ok, Err, refl}
use Rattle.std.specs.Result.{result_ok}
use Rattle.std.specs.Str.{bytes_eq}
use Rattle.std.proofs.Common.{sym}
use Rattle.std.proofs.lemmas.Slice.Eq.{bytes_eq-Decides}
use Rattle.serde_json.specs.Data.{Data}
use Rattle.serde_json.specs.Find.{as_str}
use Rattle.tui_cells.specs.Names.{IsParsed}
use Rattle.tui_cells.specs.declared.error.ParseError.{ParseError}
use Rattle.tui_json.specs.Members.{named}

-- the first of these values that has this name
abbrev pub first_named : {A : Type 0} → (A → List ℕ) → List A → List ℕ → Option A
first_named name values text = named (map (λ value. (name value, value)) values) text

-- The values of an enum and their names, which all differ.
pub record Names (A : Type 0) : Type 0 where
  pub name : A → List ℕ
  pub values : List A
  pub found : (value : A) → first_named name values (name value) ≡ Some value

-- the value of this name
abbrev pub value_named : {A : Type 0} → Names A → List ℕ → Option A
value_named names text = first_named names.name names.values text

-- names in words: `a`, `b` or `c`
abbrev pub quoted_name : List ℕ → List ℕ
quoted_name name = codes "`" ++ (name ++ codes "`")

unfoldable pub listed_names : List (List ℕ) → List ℕ
listed_names [] = []
listed_names (a ∷ []) = quoted_name a
listed_names (a ∷ b ∷ []) = quoted_name a ++ (codes " or " ++ quoted_name b)
listed_names (a ∷ b ∷ c ∷ rest) = quoted_name a ++ (codes ", " ++ listed_names (b ∷ c ∷ rest))

-- the value whose name this string is
abbrev pub named_of : {A : Type 0} → Names A → Data → Option A
named_of names d = option_and_then (value_named names) (as_str d)

differs : (text other : List ℕ) → text ≢ other → bytes_eq text other ≡ false
differs text other unlike = by_test (bytes_eq text other) refl
  where
    by_test : (b : Bool) → bytes_eq text other ≡ b → b ≡ false
    by_test true e = absurd (unlike ((bytes_eq-Decides text other).0 e))
    by_test false e = refl

no_name : {A : Type 0} (name : A → List ℕ) (values : List A) (text : List ℕ) → ((value : A) → text ≢ name value) → first_named name values text ≡ None
no_name name [] text other = refl
no_name name (v ∷ vs) text other = rw (differs text (name v) (other v)) (no_name name vs text other)

-- parsing a string gives the value of this name
pub reads_named : {A : Type 0} (names : Names A) (text : List ℕ) (answer : Result A ParseError) →
    IsParsed names.name text answer → result_ok answer ≡ value_named names text
reads_named names text (Ok value) is = rw is (sym (names.found value))
reads_named names text (Err refusal) is = sym (no_name names.name names.values text is.1)
