-- Systems in memory.
use Rattle.std.specs.Cmp.Lexicographic.{pointwise}
use Rattle.std.specs.Prelude.{◌≡◌, ◌↔◌, ℕ, List, [], length, min, find, nat_eq, Bool, Contains, IfOk, IsErr, OnErr, Option, None, Some, Result, Ok, Err, String}
use Rattle.std.specs.IoError.{error_kind}
use Rattle.std.specs.Option.{option_map_or}
use Rattle.std.specs.Vec.Iter.{into_iter_items}
use Rattle.std.specs.declared.alloc.Global.{Global}
use Rattle.std.specs.declared.io.Error.{Error}
use Rattle.std.specs.declared.io.ErrorKind.TheVariants.{OutOfMemory}
use Rattle.std.specs.declared.vec.IntoIter.{IntoIter}
use Rattle.tui_io.specs.Causes.{Observed, counted}
use Rattle.tui_io.specs.declared.source.Failed.{Failed}
use Rattle.tui_program.specs.Arguments.{AreTexts}
use Rattle.tui_system.specs.System.{Given}
use Rattle.tui_system.specs.declared.mem_input.MemInput.{MemInput}
use Rattle.tui_system.specs.declared.mem_input.MemInput.TheVariants.{Found, Missing}

-- a variable of the environment
pub record VariableData : Type 0 where
  pub name : List ℕ
  pub text : List ℕ

-- a file, with the numbers of the reads that fail
pub record FileData : Type 0 where
  pub name : List ℕ
  pub bytes : List ℕ
  pub failing : List ℕ

-- a system in memory; its first argument is the program's name
pub record SystemState : Type 0 where
  pub arguments : List (List ℕ)
  pub variables : List VariableData
  pub files : List FileData
  pub is_output_piped : Bool

-- the text of the first variable of this name; empty if there is none
abbrev pub text_of : List VariableData → List ℕ → List ℕ
text_of variables name = option_map_or (λ v. v.text) (find (λ v. pointwise nat_eq v.name name) variables) []

-- the first file of this name, if there is one
abbrev pub first_file : List FileData → List ℕ → Option FileData
first_file files name = find (λ file. pointwise nat_eq file.name name) files

-- a file that has just been opened, or what is opened if there is none
abbrev pub input_of : Option FileData → MemInput
input_of None = Missing 0
input_of (Some f) = Found (record { left = f.bytes; failing = f.failing; calls = 0; io_errors = 0 })

-- what is opened by this name
abbrev pub opened_file : List FileData → List ℕ → MemInput
opened_file files name = input_of (first_file files name)

-- the bytes that are left of an input, if there is a file, and the number of failed reads
abbrev pub input_observed : MemInput → Observed
input_observed (Found s) = record { bytes = Some s.left; io_errors = s.io_errors }
input_observed (Missing n) = record { bytes = None; io_errors = n }

-- the arguments are these, unless memory runs out
abbrev pub GivesArguments : List (List ℕ) → Result (IntoIter (String Global) Global) Error → Type 0
GivesArguments texts (Ok all) = AreTexts texts (into_iter_items all)
GivesArguments texts (Err error) = error_kind error ≡ OutOfMemory

-- what a system in memory gives
abbrev pub given_by : SystemState → Given
given_by s = record {
  arguments = GivesArguments s.arguments;
  variable = λ name text. text ≡ text_of s.variables name;
  opened = λ name file. file ≡ input_observed (opened_file s.files name);
  piped = λ is. is ≡ s.is_output_piped;
}

-- A read of an input: of a file it fails exactly if its number is listed, or else it gives as many bytes as it can. If
-- there is no file, it fails.
abbrev pub ReadsInput : MemInput → MemInput → List ℕ → Result ℕ Failed → Type 0
ReadsInput (Found old) (Found new) into result = (IsErr result ↔ Contains old.failing new.calls)
    × IfOk result (λ n. n ≡ min (length into) (length old.left)) × OnErr result (new.io_errors ≡ counted old.io_errors)
    × (new.calls ≡ counted old.calls) × (new.failing ≡ old.failing)
ReadsInput (Missing old) (Missing new) into result = IsErr result × (new ≡ counted old)
ReadsInput old new into result = ⊥
