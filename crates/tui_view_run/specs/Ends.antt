-- How a run ends, and why.
use Rattle.std.specs.Prelude.{◌≡◌, Option, Result, Ok, Err, String}
use Rattle.std.specs.declared.alloc.Global.{Global}
use Rattle.tui_display.specs.Run.{IsDisplayRun}
use Rattle.tui_display.specs.declared.outcome.DisplayEnd.{DisplayEnd}
use Rattle.tui_io.specs.Causes.{Observed}
use Rattle.tui_program.specs.Complete.{IsCompleteReading}
use Rattle.tui_program.specs.Outcomes.{EndsReading}
use Rattle.tui_program.specs.Stops.{EndsStopped, Outcome}
use Rattle.tui_program.specs.Transcript.{Transcript, transcript_of}
use Rattle.tui_program.specs.declared.stop.Stop.{Stop}
use Rattle.tui_program.specs.declared.stop.Stop.TheVariants as stop
use Rattle.tui_schema.specs.declared.bad_field.BadField.{BadField}
use Rattle.tui_system.specs.Commands.{IsCommand}
use Rattle.tui_system.specs.Opening.{EndsOpening}
use Rattle.tui_system.specs.Setting.{IsDepthOf}
use Rattle.tui_system.specs.System.{Given}
use Rattle.tui_terminal_model.specs.declared.depth.Depth.{Depth}
use Rattle.tui_view_run.specs.Arguments.{Name, input_name}
use Rattle.tui_view_run.specs.DisplayOutcome.{display_outcome}
use Rattle.tui_view_run.specs.Frames.{IsFrame, frames_output, refusal_line}
use Rattle.tui_view_run.specs.Rules.{rows_job}
use Rattle.tui_view_run.specs.declared.command.ViewCommand.{ViewCommand}
use Rattle.tui_view_run.specs.declared.command.ViewCommand.TheVariants.{Frames, Rows}

-- A run of `rows` in this colour depth: how it ends. And if memory suffices, no I/O error occurs and the bytes of the
-- source are known, these bytes decide the outcome: it is Ok for those of a scene.
pub record IsRowsRun (depth : Depth) (t : Transcript) (e : Outcome BadField) : Type 0 where
  pub ends : EndsReading (rows_job depth) t e
  pub complete : IsCompleteReading (rows_job depth) t e

-- a run of `frames` whose terminal is open: scenes are shown on it, in this colour depth
abbrev pub AreFramesShown : Depth → Observed → Observed → Outcome BadField → Type 0
AreFramesShown depth old new e = (end : DisplayEnd) × IsDisplayRun IsFrame (frames_output depth) old new end × (e ≡ display_outcome end)

-- How a run of a command ends. `ready` is that the terminal could be opened. `old` and `new` are what is observable of the terminal before and after, `output` and
-- `output_then` of the output. The variables of the system give the colour depth. `rows` reads the file that it names,
-- of which `source` is observable just after it was opened; it writes to the output, and nothing to the terminal. `frames`
-- opens the terminal and shows scenes on it, and writes nothing to the output. Or memory runs out first, and nothing is
-- written.
pub data EndsWith (given : Given) (ready : Type 0) (old new output output_then : Observed) : ViewCommand → Outcome BadField → Type 0 where
  rows : (file : Option (String Global)) (depth : Depth) (source source_then : Observed) (e : Outcome BadField) → IsDepthOf given depth →
      given.opened (input_name (Rows file)) source → IsRowsRun depth (transcript_of source source_then output output_then) e → new ≡ old →
      EndsWith given ready old new output output_then (Rows file) e
  frames : (depth : Depth) (e : Outcome BadField) → IsDepthOf given depth →
      EndsOpening ready old new (Unit {0}) (AreFramesShown depth old new) e → output_then ≡ output →
      EndsWith given ready old new output output_then Frames e
  out_of_memory : (command : ViewCommand) → new ≡ old → output_then ≡ output →
      EndsWith given ready old new output output_then command (Err stop.NoMemory)

-- how a run ends whose arguments name this: a command is run; or there is none, and only the output says so
abbrev pub EndsAfter : Given → Type 0 → Observed → Observed → Observed → Observed → Result ViewCommand (Stop BadField) → Outcome BadField → Type 0
EndsAfter given ready old new output output_then (Ok command) e = EndsWith given ready old new output output_then command e
EndsAfter given ready old new output output_then (Err stopped) e = EndsStopped refusal_line stopped output output_then e × (new ≡ old)

-- how a run on a system ends
abbrev pub Ends : Given → Type 0 → Observed → Observed → Observed → Observed → Outcome BadField → Type 0
Ends given ready old new output output_then e =
    (x : Result ViewCommand (Stop BadField)) × IsCommand given Name x × EndsAfter given ready old new output output_then x e
