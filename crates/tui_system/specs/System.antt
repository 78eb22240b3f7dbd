-- What a system gives to a program.
use Rattle.std.specs.Prelude.{⊤, ℕ, List, Bool, Result, String}
use Rattle.std.specs.declared.alloc.Global.{Global}
use Rattle.std.specs.declared.io.Error.{Error}
use Rattle.std.specs.declared.vec.IntoIter.{IntoIter}
use Rattle.tui_io.specs.Causes.{Observed}

-- What a system gives, as far as that is known: its arguments, the text of a variable by its name, what is observable of
-- a file by its name just after it was opened for reading, and whether standard output is the user's and no terminal.
pub record Given : Type 1 where
  pub arguments : Result (IntoIter (String Global) Global) Error → Type 0
  pub variable : List ℕ → List ℕ → Type 0
  pub opened : List ℕ → Observed → Type 0
  pub piped : Bool → Type 0

-- nothing is known of what it gives
abbrev pub unknown : Given
unknown = record { arguments = λ args. ⊤; variable = λ name text. ⊤; opened = λ name file. ⊤; piped = λ is. ⊤ }
