-- The arguments of the program.
use Rattle.std.specs.Prelude.{◌≡◌, ◌≤◌, List, length, Option, None, Some, String, option_to_list}
use Rattle.std.proofs.Common.{ap, arith}
use Rattle.std.specs.declared.alloc.Global.{Global}
use Rattle.tui_program.specs.Arguments.{most_arguments}
use Rattle.tui_watch_run.specs.declared.arguments.WatchCommand.{WatchCommand}

-- FOLDER, or nothing
abbrev pub Name : WatchCommand → List (String Global) → Type 0
Name command arguments = arguments ≡ option_to_list command.folder

few_of : (folder : Option (String Global)) → length (option_to_list folder) ≤ most_arguments
few_of None = omega arith
few_of (Some folder) = omega arith

-- there is at most one
pub few_arguments : (command : WatchCommand) (arguments : List (String Global)) → Name command arguments → length arguments ≤ most_arguments
few_arguments command arguments named = omega (arith, ap length named, few_of command.folder)
