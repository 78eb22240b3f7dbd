-- The arguments of the program.
use Rattle.std.specs.Prelude.{◌≡◌, ◌≢◌, ◌≤◌, Bool, true, false, List, [], ◌∷◌, codes, length, Option, None, Some, String, string_bytes}
use Rattle.std.proofs.Common.{ap, arith}
use Rattle.std.specs.declared.alloc.Global.{Global}
use Rattle.tui_files_run.specs.declared.arguments.FilesCommand.{FilesCommand}
use Rattle.tui_program.specs.Arguments.{most_arguments}

-- FOLDER and CHOSEN, of which CHOSEN or both may be left out
abbrev pub ArePaths : Option (String Global) → Option (String Global) → List (String Global) → Type 0
ArePaths None None arguments = arguments ≡ []
ArePaths (Some folder) None arguments = arguments ≡ folder ∷ []
ArePaths (Some folder) (Some chosen) arguments = arguments ≡ folder ∷ chosen ∷ []
ArePaths None (Some chosen) arguments = ⊥

-- the arguments do not begin with `--folder`
abbrev pub BeginOtherwise : List (String Global) → Type 0
BeginOtherwise [] = Unit {0}
BeginOtherwise (word ∷ rest) = string_bytes word ≢ codes "--folder"

-- `--folder`, if the path of a folder is wanted, and then FOLDER and CHOSEN
abbrev pub AreNamed : Bool → Option (String Global) → Option (String Global) → List (String Global) → Type 0
AreNamed true folder chosen arguments =
    (word : String Global) × (rest : List (String Global)) × (arguments ≡ word ∷ rest)
    × (string_bytes word ≡ codes "--folder") × ArePaths folder chosen rest
AreNamed false folder chosen arguments = BeginOtherwise arguments × ArePaths folder chosen arguments

abbrev pub Name : FilesCommand → List (String Global) → Type 0
Name command arguments = AreNamed command.wants_folder command.folder command.chosen arguments

-- ---- laws

few_paths : (folder chosen : Option (String Global)) (arguments : List (String Global)) → ArePaths folder chosen arguments → length arguments ≤ 2
few_paths None None arguments are = omega (arith, ap length are)
few_paths (Some folder) None arguments are = omega (arith, ap length are)
few_paths (Some folder) (Some chosen) arguments are = omega (arith, ap length are)
few_paths None (Some chosen) arguments are = absurd are

few_named : (wants_folder : Bool) (folder chosen : Option (String Global)) (arguments : List (String Global)) →
    AreNamed wants_folder folder chosen arguments →
    length arguments ≤ most_arguments
few_named true folder chosen arguments named = omega (arith, ap length named.2, few_paths folder chosen named.1 named.4)
few_named false folder chosen arguments named = omega (arith, few_paths folder chosen arguments named.1)

-- there are at most three
pub few_arguments : (command : FilesCommand) (arguments : List (String Global)) → Name command arguments → length arguments ≤ most_arguments
few_arguments command arguments named = few_named command.wants_folder command.folder command.chosen arguments named
