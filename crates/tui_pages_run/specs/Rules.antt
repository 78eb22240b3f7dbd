-- The rules of the program: its arguments, and what it reads and writes.
use Rattle.std.specs.Prelude.{◌≡◌, ◌≤◌, ℕ, List, [], ◌∷◌, length, option_map, codes, String}
use Rattle.std.specs.declared.alloc.Global.{Global}
use Rattle.tui_json.specs.Explanation.{explanation}
use Rattle.tui_pages_lib.specs.Report.{ReportData}
use Rattle.tui_program.specs.Outcomes.{nothing}
use Rattle.tui_program.specs.Rules.{JobRules, Rules, reading_rules}
use Rattle.tui_program.specs.Arguments.{AreTexts, most_arguments}
use Rattle.tui_program.proofs.ArgumentLists.{few_none, few_one}
use Rattle.tui_pages_run.specs.Faults.{report_fault}
use Rattle.tui_pages_run.specs.Input.{report_in}
use Rattle.tui_pages_run.specs.Printed.{AreAllPages, AreFewerPages, count_line}
use Rattle.tui_pages_run.specs.Refusals.{refusal_line}
use Rattle.tui_pages_run.specs.declared.command.PagesCommand.{PagesCommand}
use Rattle.tui_pages_run.specs.declared.command.PagesCommand.TheVariants as command
use Rattle.tui_pages_run.specs.declared.refusal.PagesRefusal.{PagesRefusal}

-- the arguments that name a command: none, or `count`
abbrev pub Names : PagesCommand → List (String Global) → Type 0
Names command.Print arguments = AreTexts [] arguments
Names command.Count arguments = AreTexts (codes "count" ∷ []) arguments

-- there is at most one
pub few_arguments : (c : PagesCommand) (arguments : List (String Global)) → Names c arguments → length arguments ≤ most_arguments
few_arguments command.Print arguments are = few_none arguments are
few_arguments command.Count arguments are = few_one (codes "count") arguments are

-- what a command writes
abbrev pub IsWritten : PagesCommand → ReportData → List ℕ → Type 0
IsWritten command.Print r text = AreAllPages r text
IsWritten command.Count r text = text ≡ count_line r

-- what may remain if memory runs out
abbrev pub IsAllowedPartial : PagesCommand → ReportData → List ℕ → Type 0
IsAllowedPartial command.Print r text = AreFewerPages r text
IsAllowedPartial command.Count r text = nothing text

-- what a command does with a value
abbrev pub pages_job : PagesCommand → JobRules PagesRefusal
pages_job c = record {
  Input = ReportData;
  input_of = report_in;
  line = refusal_line;
  explained = λ bad d. option_map explanation (report_fault bad d);
  expected = IsWritten c;
  part = IsAllowedPartial c;
}

-- the rules of all commands
abbrev pub pages_rules : Rules PagesCommand PagesRefusal
pages_rules = reading_rules Names pages_job
