-- The arguments of a run.
use Rattle.std.specs.Prelude.{◌≡◌, ◌≢◌, ℕ, ◌≤◌, List, [], ◌∷◌, length, drop, map, Option, Some, None, Result, Ok, Err, String, string_bytes}
use Rattle.std.specs.Str.Parse.{IsNumeral, digits_value}
use Rattle.std.specs.declared.alloc.Global.{Global}
use Rattle.std.specs.declared.io.Error.{Error}
use Rattle.std.specs.declared.io.ErrorKind.TheVariants.{OutOfMemory}
use Rattle.std.specs.declared.vec.IntoIter.{IntoIter}
use Rattle.std.specs.IoError.{error_kind}
use Rattle.std.specs.Vec.Iter.{into_iter_items}
use Rattle.tui_program.specs.declared.numerals.Numerals.{Numerals}

-- the arguments of a run, given those of the system: all but the program's name, or a single empty one if the system
-- reports an invalid argument
abbrev pub AreArguments : Result (IntoIter (String Global) Global) Error → List (String Global) → Type 0
AreArguments (Ok all) arguments = arguments ≡ drop 1 (into_iter_items all)
AreArguments (Err e) arguments = (error_kind e ≢ OutOfMemory) × (map string_bytes arguments ≡ [] ∷ [])

-- no command of any program has more arguments
abbrev pub most_arguments : ℕ
most_arguments = 3

-- the only value that has a property, or None if no value has it
abbrev pub IsOnly : {A : Type 0} → (A → Type 0) → Option A → Type 0
IsOnly {A} P (Some x) = P x × ((other : A) → P other → other ≡ x)
IsOnly {A} P None = (x : A) → P x → ⊥

-- the arguments are these strings
abbrev pub AreTexts : List (List ℕ) → List (String Global) → Type 0
AreTexts texts arguments = map string_bytes arguments ≡ texts

-- there are `count` arguments, and `word` is the first of them
abbrev pub StartWith : List ℕ → ℕ → List (String Global) → Type 0
StartWith word count arguments = (rest : List (List ℕ)) × AreTexts (word ∷ rest) arguments × (length arguments ≡ count)

-- only decimal digits, not more than allowed, which denote this number; and the number is within the bounds
pub record IsNumeralOf (allowed : Numerals) (digits : List ℕ) (n : ℕ) : Type 0 where
  pub numeral : IsNumeral 10 digits
  pub few : length digits ≤ allowed.digits
  pub value : n ≡ digits_value 10 digits
  pub least : allowed.least ≤ n
  pub most : n ≤ allowed.most

-- the arguments are `word` and one such number
abbrev pub HaveNumber : List ℕ → Numerals → ℕ → List (String Global) → Type 0
HaveNumber word allowed n arguments = (digits : List ℕ) × AreTexts (word ∷ digits ∷ []) arguments × IsNumeralOf allowed digits n

-- the arguments are `word` and two such numbers
abbrev pub HaveNumbers : List ℕ → Numerals → ℕ → ℕ → List (String Global) → Type 0
HaveNumbers word allowed n m arguments =
    (first : List ℕ) × (second : List ℕ) × AreTexts (word ∷ first ∷ second ∷ []) arguments
    × IsNumeralOf allowed first n × IsNumeralOf allowed second m
