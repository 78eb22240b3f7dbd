-- How a run ends, and why.
use Rattle.std.specs.Prelude.{◌≡◌, ◌⊎◌, Option, Result, Ok, Err, String, false}
use Rattle.std.specs.declared.alloc.Global.{Global}
use Rattle.tui_app.specs.Run.{IsAppRun}
use Rattle.tui_app.specs.declared.outcome.AppEnd.{AppEnd}
use Rattle.tui_cells.specs.Rect.{area_of}
use Rattle.tui_io.specs.Causes.{Observed}
use Rattle.tui_program.specs.Stops.{EndsStopped}
use Rattle.tui_program.specs.declared.stop.Stop.{Stop}
use Rattle.tui_program.specs.declared.stop.Stop.TheVariants as stop
use Rattle.tui_system.specs.Commands.{IsCommand}
use Rattle.tui_system.specs.Left.{left_of}
use Rattle.tui_system.specs.Opening.{EndsOpening}
use Rattle.tui_system.specs.RejectsNothing.{no_line}
use Rattle.tui_system.specs.Setting.{AreSettings}
use Rattle.tui_system.specs.System.{Given}
use Rattle.tui_system.specs.declared.left.Left.{Left}
use Rattle.tui_system.specs.declared.settings.Setting.{Setting}
use Rattle.tui_watch_lib.specs.Watching.{watching}
use Rattle.tui_watch_lib.specs.declared.watch.Watch.{Watch}
use Rattle.tui_watch_run.specs.Arguments.{Name}
use Rattle.tui_watch_run.specs.declared.arguments.WatchCommand.{WatchCommand}

-- The dashboard of the machine that the arguments name, which is not paused, is shown in a session that ended so.
pub record IsWatched {M : Type 0} (given : Given) (is_at : Option (String Global) → M → Type 0) (old new : Observed) (end : AppEnd) : Type 0 where
  pub command : WatchCommand
  pub named : IsCommand {R = Unit {0}} given Name (Ok command)
  pub setting : Setting
  pub settings : AreSettings given setting
  pub begin : Watch M
  pub last : Watch M
  pub machine : is_at command.folder begin.machine
  pub runs : begin.paused ≡ false
  pub run : IsAppRun (watching M) setting.output begin (area_of 0 0 setting.size.width setting.size.height) old new last end

-- A run that has not written yet why it was stopped: a dashboard was shown; or the arguments name no folder, or memory
-- ran out, and the terminal is unchanged.
abbrev pub Watches : {M : Type 0} → Given → (Option (String Global) → M → Type 0) → Observed → Observed → Result AppEnd (Stop (Unit {0})) → Type 0
Watches given is_at old new (Ok end) = IsWatched given is_at old new end
Watches given is_at old new (Err stopped) = (IsCommand given Name (Err stopped) ⊎ (stopped ≡ stop.NoMemory)) × (new ≡ old)

-- how a run ends whose terminal is open: by its session, or stopped before the terminal was entered, because the
-- arguments name no folder, or memory ran out
abbrev pub EndsOn : {M : Type 0} → Given → (Option (String Global) → M → Type 0) → Observed → Observed → Result Left (Stop (Unit {0})) → Type 0
EndsOn given is_at old new e = ((end : AppEnd) × IsWatched given is_at old new end × (e ≡ left_of end))
    ⊎ ((stopped : Stop (Unit {0})) × (IsCommand given Name (Err stopped) ⊎ (stopped ≡ stop.NoMemory)) × EndsStopped no_line stopped old new e)

-- how a run on a system ends; `ready` is that the terminal could be opened
abbrev pub Ends : {M : Type 0} → Given → (Option (String Global) → M → Type 0) → Type 0 → Observed → Observed →
    Result Left (Stop (Unit {0})) → Type 0
Ends given is_at ready old new e = EndsOpening ready old new (Unit {0}) (EndsOn given is_at old new) e
