-- The line of a program that rejects no value.
use Rattle.std.specs.Prelude.{ℕ, List, []}

-- there is no line
abbrev pub no_line : Unit {0} → List ℕ
no_line refusal = []
