-- How a run ends, and why.
use Rattle.std.specs.Prelude.{◌≡◌, List, Result, Ok, Err}
use Rattle.tui_app.specs.declared.outcome.AppEnd.{AppEnd}
use Rattle.tui_browse_run.specs.Input.{browse_reader}
use Rattle.tui_browse_run.specs.Shown.{AreShownOn}
use Rattle.tui_io.specs.Causes.{Observed}
use Rattle.tui_pager_lib.specs.Entry.{EntryData}
use Rattle.tui_pager_run.specs.Refusals.{refusal_line}
use Rattle.tui_pager_run.specs.declared.bad_input.BadInput.{BadInput}
use Rattle.tui_program.specs.Stops.{EndsStopped}
use Rattle.tui_program.specs.declared.stop.Stop.{Stop}
use Rattle.tui_system.specs.Commands.{ComesTo}
use Rattle.tui_system.specs.Left.{left_of}
use Rattle.tui_system.specs.Opening.{EndsOpening}
use Rattle.tui_system.specs.System.{Given}
use Rattle.tui_system.specs.declared.left.Left.{Left}

-- how a run ends that came to this: its entries are shown in a session; or it was stopped before the terminal was entered
abbrev pub EndsAfter : Given → Observed → Observed → Result (List EntryData) (Stop BadInput) → Result Left (Stop BadInput) → Type 0
EndsAfter given old new (Ok entries) e = (end : AppEnd) × AreShownOn given old new entries end × (e ≡ left_of end)
EndsAfter given old new (Err stopped) e = EndsStopped refusal_line stopped old new e

-- how a run ends whose terminal is open; `old` and `new` are what is observable of the terminal before and after
abbrev pub EndsOn : Given → Observed → Observed → Result Left (Stop BadInput) → Type 0
EndsOn given old new e = (x : Result (List EntryData) (Stop BadInput)) × ComesTo given browse_reader x × EndsAfter given old new x e

-- how a run on a system ends; `ready` is that the terminal could be opened
abbrev pub Ends : Given → Type 0 → Observed → Observed → Result Left (Stop BadInput) → Type 0
Ends given ready old new e = EndsOpening ready old new (Unit {0}) (EndsOn given old new) e
