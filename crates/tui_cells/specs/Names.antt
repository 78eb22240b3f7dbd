-- Enums by the names of their variants.
use Rattle.std.specs.Prelude.{◌≡◌, ◌≢◌, ℕ, List, Result, MatchResult}
use Rattle.tui_cells.specs.declared.error.ParseError.{ParseError}
use Rattle.tui_cells.specs.declared.error.ParseError.TheVariants.{VariantNotFound}

-- on Ok the string is the name of the returned value; on an error it is the name of no value
abbrev pub IsParsed : {A : Type 0} → (A → List ℕ) → List ℕ → Result A ParseError → Type 0
IsParsed {A} name text answer = MatchResult answer
    (λ value. text ≡ name value)
    (λ error. (error ≡ VariantNotFound) × ((value : A) → text ≢ name value))
