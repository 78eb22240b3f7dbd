-- The outcome of a run: the rules of the program, and what they mean for a run of any program.
use Rattle.std.specs.Prelude.{ℕ, List, String, option_map}
use Rattle.std.specs.declared.alloc.Global.{Global}
use Rattle.tui_program.specs.Transcript.{Transcript}
use Rattle.tui_program.specs.Complete.{IsCompleteReading, IsCompleteWithoutReading}
use Rattle.tui_program.specs.Outcomes as frame
use Rattle.tui_program.specs.Rules.{JobRules, Rules, Task, reads, only_writes}
use Rattle.tui_json.specs.Explanation.{explanation}
use Rattle.tui_schema.specs.FieldFaults.{scene_fault}
use Rattle.tui_schema.specs.Scene.{SceneData, scene_of}
use Rattle.tui_show_run.specs.Commands.{IsDemoCommand, IsSceneCommand, Names}
use Rattle.tui_show_run.specs.Demo.{IsDemo}
use Rattle.tui_show_run.specs.Shown.{IsShown}
use Rattle.tui_show_run.specs.Ended.{outcome_of}
use Rattle.tui_show_run.specs.Refusal.{field_line}
use Rattle.tui_schema.specs.declared.bad_field.BadField.{BadField}
use Rattle.tui_show_run.specs.declared.command.ShowCommand.{ShowCommand}
use Rattle.tui_show_run.specs.declared.command.ShowCommand.TheVariants as command
use Rattle.tui_show_run.specs.declared.ended.Ended.{Ended}

-- what the command `scene` does with a value
abbrev pub scene_job : JobRules BadField
scene_job = record {
  Input = SceneData;
  input_of = scene_of;
  line = λ refused. field_line refused.item refused.field;
  explained = λ bad d. option_map explanation (scene_fault bad d);
  expected = IsShown;
  part = λ s. frame.nothing;
}

-- what a command reads and writes
abbrev pub show_task : ShowCommand → Task BadField
show_task command.Scene = reads scene_job
show_task (command.Demo n) = only_writes (IsDemo n)

-- the rules of both commands
abbrev pub show_rules : Rules ShowCommand BadField
show_rules = record { named = Names; task = show_task }

-- the outcome of a run
abbrev pub ShowEnds : List (String Global) → Transcript → Ended → Type 0
ShowEnds words t e = frame.Ends show_rules words t (outcome_of e)

-- with the argument `scene`, if no I/O error occurs, memory suffices and the bytes of the source are known: the outcome
-- is the one that these bytes lead to
abbrev pub IsCompleteScene : List (String Global) → Transcript → Ended → Type 0
IsCompleteScene words t e = IsSceneCommand words → IsCompleteReading scene_job t (outcome_of e)

-- with the argument `demo` and a number the outcome is Ok, whatever the source is, if no write fails and memory
-- suffices
abbrev pub IsCompleteDemo : List (String Global) → Transcript → Ended → Type 0
IsCompleteDemo words t e = (n : ℕ) → IsDemoCommand n words → IsCompleteWithoutReading t (outcome_of e)
