-- How a command ends.
use Rattle.std.proofs.Common.{[], Err, refl}
use Rattle.tui_io.specs.Causes.{Observed}
use Rattle.tui_program.proofs.Completeness.{named_run}
use Rattle.tui_program.specs.Outcomes.{EndsReading}
use Rattle.tui_program.specs.Rules.{JobRules, Rules, reading_rules}
use Rattle.tui_program.specs.Stops.{Outcome}
use Rattle.tui_program.specs.Transcript.{Transcript}
use Rattle.tui_program.specs.declared.stop.Stop.TheVariants as stop
use Rattle.tui_schema.specs.declared.bad_field.BadField.{BadField}
use Rattle.tui_system.specs.System.{Given}
use Rattle.tui_terminal_model.specs.declared.depth.Depth.{Depth}
use Rattle.tui_view_run.specs.Ends.{EndsWith, IsRowsRun, out_of_memory}
use Rattle.tui_view_run.specs.Rules.{rows_job}
use Rattle.tui_view_run.specs.declared.command.ViewCommand.{ViewCommand}

-- the rules of a program of one command, which all arguments name
abbrev one_command : JobRules BadField → Rules (Unit {0}) BadField
one_command job = reading_rules (λ command arguments. Unit {0}) (λ command. job)

-- a run of `rows`: how it ends decides which outcome known bytes lead to
pub rows_run : (depth : Depth) (t : Transcript) (e : Outcome BadField) → EndsReading (rows_job depth) t e → IsRowsRun depth t e
rows_run depth t e h = record {
  ends = h;
  complete = (named_run (one_command (rows_job depth)) [] t e tt (tt, λ other are. refl) h).complete tt tt;
}

-- memory runs out, and nothing is observable of that
pub unchanged : (given : Given) (ready : Type 0) (old output : Observed) (command : ViewCommand) →
    EndsWith given ready old old output output command (Err stop.NoMemory)
unchanged given ready old output command = out_of_memory command refl refl
