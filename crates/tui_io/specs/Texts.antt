-- Pieces of text that many output lines share, in bytes.
use Rattle.std.specs.Prelude.{ℕ, List, [], ◌∷◌, codes, decimal, Option, None, Some}

-- the end of a line
abbrev pub newline : List ℕ
newline = 10 ∷ []

-- a number, or `-` if there is none
abbrev pub number_or_dash : Option ℕ → List ℕ
number_or_dash None = codes "-"
number_or_dash (Some place) = decimal place
