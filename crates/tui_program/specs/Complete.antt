-- Which outcome known bytes lead to.
use Rattle.std.specs.Prelude.{◌≡◌, ◌≢◌, ◌↔◌, ◌⊎◌, ℕ, ◌≤◌, ◌<◌, List, length, Some, None, Ok, Err, IsUtf8, String}
use Rattle.std.specs.declared.alloc.Global.{Global}
use Rattle.serde_json.specs.Data.{Data}
use Rattle.serde_json.specs.Read.{read}
use Rattle.tui_io.specs.Causes.{HasFailed}
use Rattle.tui_io.specs.Limits.{limit}
use Rattle.tui_program.specs.Transcript.{Transcript}
use Rattle.tui_program.specs.Outcomes.{NameNoCommand}
use Rattle.tui_program.specs.Rules.{JobRules, Rules, Task, reads, only_writes}
use Rattle.tui_program.specs.Stops.{Outcome}
use Rattle.tui_program.specs.declared.stop.Stop.TheVariants as stop

-- bytes within the limit that are JSON for this value
pub record AreJson (bytes : List ℕ) (value : Data) : Type 0 where
  pub within : length bytes ≤ limit
  pub utf8 : IsUtf8 bytes
  pub json : read bytes ≡ Some value

-- the outcome that the bytes of a source lead to
abbrev pub CallFor : {R : Type 0} → JobRules R → List ℕ → Outcome R → Type 0
CallFor r bytes (Err stop.TooLong) = limit < length bytes
CallFor r bytes (Err stop.NotJson) = (length bytes ≤ limit) × (IsUtf8 bytes → read bytes ≡ None)
CallFor r bytes (Err (stop.Rejected x)) = (d : Data) × AreJson bytes d × (r.input_of d ≡ Err x)
CallFor r bytes (Ok u) = (d : Data) × AreJson bytes d × ((input : r.Input) × (r.input_of d ≡ Ok input))
CallFor r bytes e = ⊥

-- if no I/O error occurs, memory suffices and the bytes of the source are known: a run that reads has the outcome that
-- these bytes lead to
abbrev pub IsCompleteReading : {R : Type 0} → JobRules R → Transcript → Outcome R → Type 0
IsCompleteReading {R} r t e =
    (HasFailed t.source t.source_then → ⊥) → (HasFailed t.sink t.sink_then → ⊥) → e ≢ Err stop.NoMemory
    → (bytes : List ℕ) → t.source.bytes ≡ Some bytes → (expected : Outcome R) → (e ≡ expected) ↔ CallFor r bytes expected

-- if no write fails and memory suffices, a run that reads nothing writes its output, whatever its source is
abbrev pub IsCompleteWithoutReading : {R : Type 0} → Transcript → Outcome R → Type 0
IsCompleteWithoutReading t e =
    (HasFailed t.sink t.sink_then → ⊥) → e ≢ Err stop.NoMemory → e ≡ Ok tt

-- one of these for each task: for one that reads, and for one that only writes
abbrev pub IsCompleteBy : {R : Type 0} → Task R → Transcript → Outcome R → Type 0
IsCompleteBy (reads r) t e = IsCompleteReading r t e
IsCompleteBy (only_writes expected) t e = IsCompleteWithoutReading t e

-- the same for the command that the arguments name
abbrev pub IsComplete : {C R : Type 0} → Rules C R → List (String Global) → Transcript → Outcome R → Type 0
IsComplete {C} rules arguments t e = (command : C) → rules.named command arguments → IsCompleteBy (rules.task command) t e

-- if the arguments name no command, no other outcome is possible
abbrev pub IsUsage : {C R : Type 0} → Rules C R → List (String Global) → Outcome R → Type 0
IsUsage rules arguments e = NameNoCommand rules arguments → (e ≡ Err stop.Usage) ⊎ (e ≡ Err stop.WriteFault)
