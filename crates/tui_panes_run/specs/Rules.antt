-- The rules of the program: its arguments, and what it reads and writes.
use Rattle.std.specs.Prelude.{ℕ, ◌≤◌, List, [], ◌∷◌, length, codes, option_map, String}
use Rattle.std.specs.declared.alloc.Global.{Global}
use Rattle.tui_cells.specs.Rect.{farthest_edge}
use Rattle.tui_program.specs.Outcomes.{nothing}
use Rattle.tui_program.specs.Rules.{JobRules, Rules, reading_rules}
use Rattle.tui_program.specs.Arguments.{AreTexts, HaveNumbers, most_arguments}
use Rattle.tui_program.proofs.ArgumentLists.{few_none, few_one, few_three}
use Rattle.tui_program.specs.declared.numerals.Numerals.{Numerals}
use Rattle.tui_json.specs.Explanation.{explanation}
use Rattle.tui_panes_run.specs.Faults.{input_fault}
use Rattle.tui_panes_run.specs.Found.{IsFound}
use Rattle.tui_panes_run.specs.Input.{InputData, input_of}
use Rattle.tui_panes_run.specs.Refusals.{refusal_line}
use Rattle.tui_panes_run.specs.Shown.{ArePanesShown}
use Rattle.tui_panes_run.specs.declared.command.PanesCommand.{PanesCommand}
use Rattle.tui_panes_run.specs.declared.command.PanesCommand.TheVariants as command
use Rattle.tui_panes_run.specs.declared.order.Order.TheVariants as order
use Rattle.tui_panes_run.specs.declared.refusal.PanesRefusal.{PanesRefusal}

-- one to five digits of a number up to 65535
abbrev pub places : Numerals
places = record { digits = 5; least = 0; most = farthest_edge }

-- the arguments that name a command: none, `reverse`, or `at` and two such numbers
abbrev pub Names : PanesCommand → List (String Global) → Type 0
Names (command.Draw order.FirstToLast) arguments = AreTexts [] arguments
Names (command.Draw order.LastToFirst) arguments = AreTexts (codes "reverse" ∷ []) arguments
Names (command.At x y) arguments = HaveNumbers (codes "at") places x y arguments

-- there are at most three
pub few_arguments : (c : PanesCommand) (arguments : List (String Global)) → Names c arguments → length arguments ≤ most_arguments
few_arguments (command.Draw order.FirstToLast) arguments are = few_none arguments are
few_arguments (command.Draw order.LastToFirst) arguments are = few_one (codes "reverse") arguments are
few_arguments (command.At x y) arguments are = few_three (codes "at") places x y arguments are

-- what a command writes
abbrev pub IsWritten : PanesCommand → InputData → List ℕ → Type 0
IsWritten (command.Draw order) input text = ArePanesShown order input text
IsWritten (command.At x y) input text = IsFound x y input text

-- what a command does with a value: nothing is written before all is drawn
abbrev pub panes_job : PanesCommand → JobRules PanesRefusal
panes_job c = record {
  Input = InputData;
  input_of = input_of;
  line = refusal_line;
  explained = λ refusal d. option_map explanation (input_fault d);
  expected = IsWritten c;
  part = λ input. nothing;
}

abbrev pub panes_rules : Rules PanesCommand PanesRefusal
panes_rules = reading_rules Names panes_job
