-- What holds for every input of the program.
use Rattle.std.specs.Prelude.{◌≡◌, IsSome, Err}
use Rattle.serde_json.specs.Data.{Data}
use Rattle.tui_json.specs.Faults.{Leads}
use Rattle.tui_pages_run.specs.Faults.{report_fault}
use Rattle.tui_pages_run.specs.Input.{report_in}
use Rattle.tui_pages_run.specs.declared.refusal.PagesRefusal.{PagesRefusal}

-- A report that is rejected has a fault, at the field or the record that the rejection names, and its steps lead to
-- what it says is there.
pub record ReportsAreExplained : Type 0 where
  pub found : (d : Data) (bad : PagesRefusal) → report_in d ≡ Err bad → IsSome (report_fault bad d)
  pub leads : (d : Data) (bad : PagesRefusal) → Leads (report_fault bad d) d
