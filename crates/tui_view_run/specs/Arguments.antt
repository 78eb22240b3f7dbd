-- The arguments of the program, and the inputs that they name.
use Rattle.std.specs.Prelude.{◌≤◌, ℕ, List, [], ◌∷◌, codes, length, None, Some, String, string_bytes}
use Rattle.std.proofs.Common.{sym, ap, ◌∙◌}
use Rattle.std.proofs.lemmas.List.{length-map}
use Rattle.std.specs.declared.alloc.Global.{Global}
use Rattle.tui_program.proofs.ArgumentLists.{few_one, few_started}
use Rattle.tui_program.specs.Arguments.{AreTexts, StartWith, most_arguments}
use Rattle.tui_view_run.specs.declared.command.ViewCommand.{ViewCommand}
use Rattle.tui_view_run.specs.declared.command.ViewCommand.TheVariants.{Frames, Rows}

-- `frames`; or `rows`; or `rows` and FILE
abbrev pub Name : ViewCommand → List (String Global) → Type 0
Name Frames arguments = AreTexts (codes "frames" ∷ []) arguments
Name (Rows None) arguments = AreTexts (codes "rows" ∷ []) arguments
Name (Rows (Some file)) arguments = AreTexts (codes "rows" ∷ string_bytes file ∷ []) arguments

-- the name of the input: FILE, or `-`, standard input, if there is no FILE
abbrev pub input_name : ViewCommand → List ℕ
input_name (Rows (Some file)) = string_bytes file
input_name (Rows None) = codes "-"
input_name Frames = codes "-"

-- with FILE there are two arguments
pub two_with_file : (file : String Global) (arguments : List (String Global)) → AreTexts (codes "rows" ∷ string_bytes file ∷ []) arguments →
    StartWith (codes "rows") 2 arguments
two_with_file file arguments are = (string_bytes file ∷ [], are, sym (length-map arguments string_bytes) ∙ ap length are)

-- there are at most two
pub few_arguments : (command : ViewCommand) (arguments : List (String Global)) → Name command arguments → length arguments ≤ most_arguments
few_arguments Frames arguments are = few_one (codes "frames") arguments are
few_arguments (Rows None) arguments are = few_one (codes "rows") arguments are
few_arguments (Rows (Some file)) arguments are = few_started (codes "rows") arguments (two_with_file file arguments are)
