-- The arguments of the program.
use Rattle.std.specs.Prelude.{◌≡◌, ◌≤◌, ℕ, List, [], ◌∷◌, codes, length, String, string_bytes}
use Rattle.std.proofs.Common.{sym, ap, ◌∙◌, arith}
use Rattle.std.proofs.lemmas.List.{length-map}
use Rattle.std.specs.declared.alloc.Global.{Global}
use Rattle.tui_browse_run.specs.declared.arguments.BrowseCommand.{BrowseCommand}
use Rattle.tui_browse_run.specs.declared.format.Format.{Format}
use Rattle.tui_browse_run.specs.declared.format.Format.TheVariants.{Entries, Text}
use Rattle.tui_program.specs.Arguments.{AreTexts, StartWith, most_arguments}

-- one argument is a file of entries; an argument after `--text` is a text file
abbrev pub HaveFormat : Format → List (String Global) → Type 0
HaveFormat Entries arguments = length arguments ≡ 1
HaveFormat Text arguments = StartWith (codes "--text") 2 arguments

-- and this is the file
abbrev pub NamesFile : Format → String Global → List (String Global) → Type 0
NamesFile Entries file arguments = AreTexts (string_bytes file ∷ []) arguments
NamesFile Text file arguments = AreTexts (codes "--text" ∷ string_bytes file ∷ []) arguments

abbrev pub Name : BrowseCommand → List (String Global) → Type 0
Name command arguments = NamesFile command.format command.file arguments

few_of : (texts : List (List ℕ)) (arguments : List (String Global)) → AreTexts texts arguments → length texts ≤ 3 → length arguments ≤ most_arguments
few_of texts arguments are few = omega (arith, sym (length-map arguments string_bytes) ∙ ap length are)

few_for : (format : Format) (file : String Global) (arguments : List (String Global)) →
    NamesFile format file arguments → length arguments ≤ most_arguments
few_for Entries file arguments named = few_of (string_bytes file ∷ []) arguments named (omega arith)
few_for Text file arguments named = few_of (codes "--text" ∷ string_bytes file ∷ []) arguments named (omega arith)

-- there are at most two
pub few_arguments : (command : BrowseCommand) (arguments : List (String Global)) → Name command arguments → length arguments ≤ most_arguments
few_arguments command arguments named = few_for command.format command.file arguments named
