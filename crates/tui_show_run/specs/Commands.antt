-- The arguments of the commands.
use Rattle.std.specs.Prelude.{ℕ, ◌≤◌, List, [], ◌∷◌, length, codes, String}
use Rattle.std.specs.declared.alloc.Global.{Global}
use Rattle.tui_program.specs.Arguments.{AreTexts, HaveNumber, most_arguments}
use Rattle.tui_program.proofs.ArgumentLists.{few_one, few_two}
use Rattle.tui_program.specs.declared.numerals.Numerals.{Numerals}
use Rattle.tui_show_run.specs.declared.command.ShowCommand.{ShowCommand}
use Rattle.tui_show_run.specs.declared.command.ShowCommand.TheVariants as command

-- the only argument is `scene`
abbrev pub IsSceneCommand : List (String Global) → Type 0
IsSceneCommand words = AreTexts (codes "scene" ∷ []) words

-- a number from 1 to 100000 in one to six digits
abbrev pub counts : Numerals
counts = record { digits = 6; least = 1; most = 100000 }

-- the arguments are `demo` and such a number
abbrev pub IsDemoCommand : ℕ → List (String Global) → Type 0
IsDemoCommand n words = HaveNumber (codes "demo") counts n words

-- the arguments are those of no command
abbrev pub IsNoCommand : List (String Global) → Type 0
IsNoCommand words = (IsSceneCommand words → ⊥) × ((n : ℕ) → IsDemoCommand n words → ⊥)

-- the arguments that name a command
abbrev pub Names : ShowCommand → List (String Global) → Type 0
Names command.Scene words = IsSceneCommand words
Names (command.Demo n) words = IsDemoCommand n words

-- there are at most two
pub few_arguments : (c : ShowCommand) (words : List (String Global)) → Names c words → length words ≤ most_arguments
few_arguments command.Scene words are = few_one (codes "scene") words are
few_arguments (command.Demo n) words are = few_two (codes "demo") counts n words are
