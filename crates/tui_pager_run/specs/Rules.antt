-- The rules of the program: its arguments, and what it reads and writes.
use Rattle.std.specs.Prelude.{◌≤◌, List, [], length, option_map, String}
use Rattle.std.specs.declared.alloc.Global.{Global}
use Rattle.tui_json.specs.Explanation.{explanation}
use Rattle.tui_program.specs.Outcomes.{nothing}
use Rattle.tui_program.specs.Rules.{JobRules, Rules, reading_rules}
use Rattle.tui_program.specs.Arguments.{AreTexts, most_arguments}
use Rattle.tui_program.proofs.ArgumentLists.{few_none}
use Rattle.tui_pager_run.specs.Faults.{input_fault}
use Rattle.tui_pager_run.specs.Input.{InputData, input_of}
use Rattle.tui_pager_run.specs.Printed.{IsWritten}
use Rattle.tui_pager_run.specs.Refusals.{refusal_line}
use Rattle.tui_pager_run.specs.declared.bad_input.BadInput.{BadInput}
use Rattle.tui_pager_run.specs.declared.command.PagerCommand.{PagerCommand}

-- there are no arguments
abbrev pub Names : PagerCommand → List (String Global) → Type 0
Names c arguments = AreTexts [] arguments

-- so they are few
pub few_arguments : (c : PagerCommand) (arguments : List (String Global)) → Names c arguments → length arguments ≤ most_arguments
few_arguments c arguments are = few_none arguments are

-- what the program does with a value: nothing is written before the last key is handled
abbrev pub pager_job : PagerCommand → JobRules BadInput
pager_job c = record {
  Input = InputData;
  input_of = input_of;
  line = refusal_line;
  explained = λ bad d. option_map explanation (input_fault bad d);
  expected = IsWritten;
  part = λ input. nothing;
}

-- the rules of the one command
abbrev pub pager_rules : Rules PagerCommand BadInput
pager_rules = reading_rules Names pager_job
