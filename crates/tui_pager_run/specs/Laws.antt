-- An input has exactly one output, or a fault.
use Rattle.std.specs.Prelude.{◌≡◌, ℕ, List, IsSome, Err}
use Rattle.serde_json.specs.Data.{Data}
use Rattle.tui_json.specs.Faults.{Leads}
use Rattle.tui_pager_run.specs.Faults.{input_fault}
use Rattle.tui_pager_run.specs.Input.{InputData, input_of}
use Rattle.tui_pager_run.specs.declared.bad_input.BadInput.{BadInput}
use Rattle.tui_pager_run.specs.Printed.{IsWritten}

-- an input has at most one output
abbrev pub OutputIsUnique : Type 0
OutputIsUnique = (input : InputData) (text other : List ℕ) → IsWritten input text → IsWritten input other → other ≡ text

-- An input that is rejected has a fault, at the field that the rejection names, and its steps lead to what it says is
-- there.
pub record InputsAreExplained : Type 0 where
  pub found : (d : Data) (bad : BadInput) → input_of d ≡ Err bad → IsSome (input_fault bad d)
  pub leads : (d : Data) (bad : BadInput) → Leads (input_fault bad d) d
