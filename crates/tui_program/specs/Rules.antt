-- The rules of a program: its arguments, and what its commands have to do.
use Rattle.std.specs.Prelude.{ℕ, List, Option, Result, String}
use Rattle.std.specs.declared.alloc.Global.{Global}
use Rattle.serde_json.specs.Data.{Data}

-- what a command does with the JSON value that it reads; `R` is what it rejects one with
pub record JobRules (R : Type 0) : Type 1 where
  -- the meaning of an accepted value
  pub Input : Type 0
  -- the meaning of a value, or the error of the first test that fails
  pub input_of : Data → Result Input R
  -- the line of a rejection
  pub line : R → List ℕ
  -- what is wrong with a rejected value, in words, if there are any
  pub explained : R → Data → Option (List ℕ)
  -- the output
  pub expected : Input → List ℕ → Type 0
  -- first parts of the output that may remain if memory runs out; for most commands `nothing`
  pub part : Input → List ℕ → Type 0

-- a command reads a JSON value, or it reads nothing and writes an output
pub data Task (R : Type 0) : Type 1 where
  reads : JobRules R → Task R
  only_writes : (List ℕ → Type 0) → Task R

-- the arguments that name each command, and what it has to do
pub record Rules (C R : Type 0) : Type 1 where
  pub named : C → List (String Global) → Type 0
  pub task : C → Task R

-- the rules of a program in which all commands read a value
abbrev pub reading_rules : {C R : Type 0} → (C → List (String Global) → Type 0) → (C → JobRules R) → Rules C R
reading_rules named job = record { named = named; task = λ command. reads (job command) }
