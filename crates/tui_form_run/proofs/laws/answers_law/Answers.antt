use Rattle.std.proofs.Common.{arith}
use Rattle.json.specs.Json.{object}
use Rattle.json.proofs.Printed.Trees.{document-print}
use Rattle.tui_form_run.proofs.OneLine.{answers_one}
use Rattle.tui_form_run.proofs.Flat.{are_flat, have_numbers}
use Rattle.tui_form_run.proofs.laws.answers_law.Goals as goal
use Rattle.tui_form_run.specs.Answers.{members_of}

pub returns : goal.returns
returns c = record {
  reads = λ fields. document-print (object (members_of fields)) (have_numbers fields) (let flat = are_flat fields in omega arith);
  one_line = answers_one;
}
