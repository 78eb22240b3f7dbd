-- The path that was chosen, and where it is written.
use Rattle.std.specs.Prelude.{◌≡◌, ℕ, Bool, true, false, List, ◌++◌, Option, Some, Result, Ok, Err, unwrap_or}
use Rattle.std.specs.Path.{path_parent}
use Rattle.tui_app.specs.declared.outcome.AppEnd.{AppEnd}
use Rattle.tui_app.specs.declared.outcome.AppEnd.TheVariants as ends
use Rattle.tui_io.specs.Causes.{Observed, WritesAll, WritesPrefix}
use Rattle.tui_io.specs.Texts.{newline}
use Rattle.tui_program.specs.Transcript.{Unwritten}
use Rattle.tui_program.specs.declared.stop.Stop.{Stop}
use Rattle.tui_program.specs.declared.stop.Stop.TheVariants as stop
use Rattle.tui_system.specs.Left.{left_of}
use Rattle.tui_system.specs.Places.{PlaceData}
use Rattle.tui_system.specs.declared.left.Left.{Left}
use Rattle.tui_system.specs.declared.left.Left.TheVariants as left

-- the folder of a path: the path itself if it is that of a folder, or else the folder that it lies in
abbrev pub folder_of : Bool → List ℕ → List ℕ
folder_of true path = path
folder_of false path = unwrap_or (path_parent path) path

-- the path that is written: the selected one, or its folder if a folder is wanted
abbrev pub IsChosen : (List ℕ → Bool → Type 0) → Bool → List ℕ → List ℕ → Type 0
IsChosen is_folder false selected path = path ≡ selected
IsChosen is_folder true selected path = (is : Bool) × is_folder selected is × (path ≡ folder_of is selected)

-- the path and a newline are written; or a write failed after the first part of them; or memory ran out, and nothing was
-- written
abbrev pub EndsWriting : (List ℕ → Type 0) → Observed → Observed → Result Left (Stop (Unit {0})) → Type 0
EndsWriting is_chosen old new (Ok left.Quit) = (path : List ℕ) × is_chosen path × WritesAll old new (path ++ newline)
EndsWriting is_chosen old new (Err stop.WriteFault) = (path : List ℕ) × is_chosen path × WritesPrefix old new (path ++ newline)
EndsWriting is_chosen old new (Err stop.NoMemory) = Unwritten old new
EndsWriting is_chosen old new e = ⊥

-- after a session, the path is written if the user quit and there is a place for it
abbrev pub EndsChoosing : (List ℕ → Type 0) → Option PlaceData → AppEnd → Observed → Observed → Result Left (Stop (Unit {0})) → Type 0
EndsChoosing is_chosen (Some place) ends.Quit old new e = EndsWriting is_chosen old new e
EndsChoosing is_chosen place end old new e = (e ≡ left_of end) × Unwritten old new
