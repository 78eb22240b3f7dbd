-- The lines of an input.
use Rattle.std.specs.Prelude.{◌≡◌, ℕ, ◌==◌, List, [], ◌∷◌, ◌++◌}
use Rattle.std.specs.List.{slice_split}

-- the parts between its newlines, before the first one and after the last one
abbrev pub pieces : List ℕ → List (List ℕ)
pieces input = slice_split (λ b. b == 10) input

-- these lines have ended, and this is the line that has begun after them
abbrev pub IsCut : List ℕ → List (List ℕ) → List ℕ → Type 0
IsCut input lines begun = pieces input ≡ lines ++ begun ∷ []
