-- How a run ends, and why.
use Rattle.std.specs.Prelude.{◌≡◌, ℕ, Bool, List, Option, Some, Result, Ok, Err}
use Rattle.tui_app.specs.Run.{IsAppRun}
use Rattle.tui_app.specs.declared.outcome.AppEnd.{AppEnd}
use Rattle.tui_cells.specs.Rect.{area_of}
use Rattle.tui_files_lib.specs.Browsing.{Lists, chosen_path}
use Rattle.tui_files_lib.specs.Laws.{files}
use Rattle.tui_files_lib.specs.declared.files.FilesApp.{FilesApp}
use Rattle.tui_files_run.specs.Arguments.{Name}
use Rattle.tui_files_run.specs.Browsing.{BeginsIn, CannotBegin, Paths, first_folder}
use Rattle.tui_files_run.specs.Chosen.{EndsChoosing, IsChosen}
use Rattle.tui_files_run.specs.declared.arguments.FilesCommand.{FilesCommand}
use Rattle.tui_io.specs.Causes.{Observed}
use Rattle.tui_program.specs.Stops.{EndsStopped}
use Rattle.tui_program.specs.Transcript.{Unwritten}
use Rattle.tui_program.specs.declared.stop.Stop.{Stop}
use Rattle.tui_program.specs.declared.stop.Stop.TheVariants as stop
use Rattle.tui_system.specs.Commands.{IsCommand}
use Rattle.tui_system.specs.Opening.{CannotOpen, EndsOpening}
use Rattle.tui_system.specs.Places.{IsPlaceFor, PlaceData}
use Rattle.tui_system.specs.RejectsNothing.{no_line}
use Rattle.tui_system.specs.Setting.{AreSettings}
use Rattle.tui_system.specs.System.{Given}
use Rattle.tui_system.specs.declared.left.Left.{Left}
use Rattle.tui_system.specs.declared.settings.Setting.{Setting}

-- a destination is unchanged, and open at a place, if there is one; or it could not be opened, or memory ran out
abbrev pub Readies : Observed → Observed → (PlaceData → Type 0) → Option PlaceData → Result (Unit {0}) (Stop (Unit {0})) → Type 0
Readies old new is_open_at place (Ok x) = (new ≡ old) × ((p : PlaceData) → place ≡ Some p → is_open_at p)
Readies old new is_open_at place (Err stop.WriteFault) = ((p : PlaceData) × (place ≡ Some p)) × CannotOpen old new
Readies old new is_open_at place (Err stop.NoMemory) = new ≡ old
Readies old new is_open_at place (Err other) = ⊥

-- How a run ends with a browser. `old` and `new` are what is observable of the terminal before and after, `chosen` and
-- `chosen_then` of the destination of the path; `opened` is that this could be opened at a place, with the content from
-- before. The destination can't be opened, or memory runs out, and the terminal is not entered. Or the destination is
-- open if there is a place for the path, the browser is shown, the terminal is left, and then the path is written.
pub data EndsBrowsing (F : Type 0) (lists : F → Lists) (given : Given) (is_folder : List ℕ → Bool → Type 0) (old new chosen chosen_then : Observed)
    (opened : PlaceData → Type 0) (command : FilesCommand) (begin : FilesApp F) : Result Left (Stop (Unit {0})) → Type 0 where
  cannot_open : (place : PlaceData) → IsPlaceFor given command.chosen (Some place) → Unwritten old new → CannotOpen chosen chosen_then →
      EndsBrowsing F lists given is_folder old new chosen chosen_then opened command begin (Err stop.WriteFault)
  out_of_memory : Unwritten old new → Unwritten chosen chosen_then →
      EndsBrowsing F lists given is_folder old new chosen chosen_then opened command begin (Err stop.NoMemory)
  shown : (setting : Setting) (place : Option PlaceData) (last : FilesApp F) (end : AppEnd)
      (e : Result Left (Stop (Unit {0}))) → AreSettings given setting →
      IsPlaceFor given command.chosen place → ((p : PlaceData) → place ≡ Some p → opened p) →
      IsAppRun (files F lists) setting.output begin (area_of 0 0 setting.size.width setting.size.height) old new last end →
      EndsChoosing (IsChosen is_folder command.wants_folder (chosen_path last.browser)) place end chosen chosen_then e →
      EndsBrowsing F lists given is_folder old new chosen chosen_then opened command begin e

-- How a run of a command ends. The folder can't be read, or memory runs out, and the terminal is not entered. Or there is
-- a browser of the folder.
pub data EndsWith (F : Type 0) (lists : F → Lists) (given : Given) (paths : Paths)
    (old new chosen chosen_then : Observed) (opened : PlaceData → Type 0)
    (command : FilesCommand) : Result Left (Stop (Unit {0})) → Type 0 where
  cannot_begin : CannotBegin paths (first_folder command.folder) → Unwritten old new → Unwritten chosen chosen_then →
      EndsWith F lists given paths old new chosen chosen_then opened command (Err stop.ReadFault)
  without_memory : Unwritten old new → Unwritten chosen chosen_then →
      EndsWith F lists given paths old new chosen chosen_then opened command (Err stop.NoMemory)
  begun : (begin : FilesApp F) (e : Result Left (Stop (Unit {0}))) → BeginsIn paths (first_folder command.folder) begin →
      EndsBrowsing F lists given paths.is_folder old new chosen chosen_then opened command begin e →
      EndsWith F lists given paths old new chosen chosen_then opened command e

-- how a run ends whose arguments name this: a command is run; or there is none, and nothing is written as a path
abbrev pub EndsAfter : (F : Type 0) → (F → Lists) → Given → Paths → Observed → Observed → Observed → Observed → (PlaceData → Type 0) →
    Result FilesCommand (Stop (Unit {0})) → Result Left (Stop (Unit {0})) → Type 0
EndsAfter F lists given paths old new chosen chosen_then opened (Ok command) e = EndsWith F lists given paths old new chosen chosen_then opened command e
EndsAfter F lists given paths old new chosen chosen_then opened (Err stopped) e = EndsStopped no_line stopped old new e × Unwritten chosen chosen_then

-- how a run ends whose terminal is open
abbrev pub EndsOn : (F : Type 0) → (F → Lists) → Given → Paths → Observed → Observed → Observed → Observed →
    (PlaceData → Type 0) → Result Left (Stop (Unit {0})) → Type 0
EndsOn F lists given paths old new chosen chosen_then opened e = (x : Result FilesCommand (Stop (Unit {0})))
    × IsCommand given Name x × EndsAfter F lists given paths old new chosen chosen_then opened x e

-- how a run on a system ends; `ready` is that the terminal could be opened
abbrev pub Ends : (F : Type 0) → (F → Lists) → Given → Paths → Type 0 → Observed → Observed → Observed → Observed →
    (PlaceData → Type 0) → Result Left (Stop (Unit {0})) → Type 0
Ends F lists given paths ready old new chosen chosen_then opened e =
    EndsOpening ready old new (chosen_then ≡ chosen) (EndsOn F lists given paths old new chosen chosen_then opened) e
