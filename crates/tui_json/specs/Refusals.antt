-- The first field whose test fails. `R` is the program's own error: usually a field and the number of its item.
use Rattle.std.specs.Prelude.{◌≡◌, ℕ, ◌+◌, List, [], ◌∷◌, Option, Some, None, Result, Ok, Err}
use Rattle.serde_json.specs.Data.{Data, Items, no_items, item}
use Rattle.tui_json.specs.Members.{given_member, member, optional_member}
use Rattle.tui_json.specs.declared.input_error.InputError.{InputError}
use Rattle.tui_json.specs.declared.input_error.InputError.TheVariants as errors
use Rattle.tui_json.specs.declared.kind.KindError.{KindError}
use Rattle.tui_json.specs.declared.kind.KindError.TheVariants as kinds

-- one test after another
infixl 10 ◌>>=◌
abbrev pub ◌>>=◌ : {A B R : Type 0} → Result A R → (A → Result B R) → Result B R
(Ok x) >>= f = f x
(Err e) >>= f = Err e

-- the tests fail with the error, if there is one
abbrev pub Rejects : {Y R : Type 0} → Option R → Result Y R → Type 0
Rejects None tests = Unit {0}
Rejects (Some refusal) tests = tests ≡ Err refusal

-- the rejection in an error; None for `NoMemory`
abbrev pub refused : {R : Type 0} → InputError R → Option R
refused (errors.Refused refusal) = Some refusal
refused errors.NoMemory = None

-- a reader's result, mapped by `view`, is what the tests give, unless memory ran out
abbrev pub Gives : {X Y R : Type 0} → (X → Y) → Result X (InputError R) → Result Y R → Type 0
Gives view (Ok x) tests = tests ≡ Ok (view x)
Gives view (Err e) tests = Rejects (refused e) tests

-- one of two results: for a rejection, or for `NoMemory`
abbrev pub by_error : {R A : Type 0} → (R → A) → A → InputError R → A
by_error rejecting no_memory (errors.Refused refusal) = rejecting refusal
by_error rejecting no_memory errors.NoMemory = no_memory

-- the rejection, if a value is not of its kind; None for `NoMemory`
abbrev pub or_out_of_memory : {R : Type 0} → KindError → R → Option R
or_out_of_memory kinds.WrongKind refusal = Some refusal
or_out_of_memory kinds.NoMemory refusal = None

-- the value if there is one, or else the rejection
abbrev pub or_reject : {A R : Type 0} → R → Option A → Result A R
or_reject refusal None = Err refusal
or_reject refusal (Some x) = Ok x

-- a field that has to be there
abbrev pub required : {A R : Type 0} → (Data → Option A) → List ℕ → R → Data → Result A R
required kind key refusal d = or_reject refusal (member kind key d)

-- a field that may be absent or null
abbrev pub optional : {A R : Type 0} → (Data → Option A) → List ℕ → R → Data → Result (Option A) R
optional kind key refusal d = or_reject refusal (optional_member kind key d)

-- a field that may be absent, and for which null is a value
abbrev pub given : {A R : Type 0} → (Data → Option A) → List ℕ → R → Data → Result (Option A) R
given kind key refusal d = or_reject refusal (given_member kind key d)

-- the values of an array, from number `i` on, each tested with its number
unfoldable pub numbered : {A R : Type 0} → (ℕ → Data → Result A R) → ℕ → Items → Result (List A) R
numbered tests i no_items = Ok []
numbered tests i (item d ds) = do
  first ← tests i d
  rest ← numbered tests (i + 1) ds
  Ok (first ∷ rest)
