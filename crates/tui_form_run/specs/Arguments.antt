-- The arguments of the program.
use Rattle.std.specs.Prelude.{◌≡◌, ◌≤◌, List, [], ◌∷◌, length, Option, None, Some, String}
use Rattle.std.proofs.Common.{ap, arith}
use Rattle.std.specs.declared.alloc.Global.{Global}
use Rattle.tui_form_run.specs.declared.arguments.FormFiles.{FormFiles}
use Rattle.tui_program.specs.Arguments.{most_arguments}

-- FORM, or FORM and ANSWERS
abbrev pub arguments_of : String Global → Option (String Global) → List (String Global)
arguments_of form None = form ∷ []
arguments_of form (Some answers) = form ∷ answers ∷ []

-- the arguments name these files
abbrev pub Name : FormFiles → List (String Global) → Type 0
Name files arguments = arguments ≡ arguments_of files.form files.answers

few_of : (form : String Global) (answers : Option (String Global)) → length (arguments_of form answers) ≤ most_arguments
few_of form None = omega arith
few_of form (Some answers) = omega arith

-- there are at most two
pub few_arguments : (files : FormFiles) (arguments : List (String Global)) → Name files arguments → length arguments ≤ most_arguments
few_arguments files arguments named = omega (arith, ap length named, few_of files.form files.answers)
