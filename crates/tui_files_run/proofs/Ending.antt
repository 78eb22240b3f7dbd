-- How runs end: what is left alone, and what is written at last.
use Rattle.std.proofs.Common.{◌≡◌, ℕ, Bool, List, Option, None, Some, Result, Err, refl, sym, subst}
use Rattle.tui_app.specs.declared.outcome.AppEnd.{AppEnd}
use Rattle.tui_app.specs.declared.outcome.AppEnd.TheVariants as ends
use Rattle.tui_files_lib.specs.Browsing.{Lists}
use Rattle.tui_files_lib.specs.declared.files.FilesApp.{FilesApp}
use Rattle.tui_files_run.specs.Browsing.{BeginsIn, BeginsOrStops, Paths, first_folder}
use Rattle.tui_files_run.specs.Chosen.{EndsChoosing, EndsWriting}
use Rattle.tui_files_run.specs.Ends.{EndsBrowsing, EndsWith, Readies, begun, cannot_begin, cannot_open, out_of_memory, without_memory}
use Rattle.tui_files_run.specs.declared.arguments.FilesCommand.{FilesCommand}
use Rattle.tui_io.proofs.Outside.{Keeps-self}
use Rattle.tui_io.specs.Causes.{Observed}
use Rattle.tui_program.specs.Transcript.{Unwritten}
use Rattle.tui_program.specs.declared.stop.Stop.{Stop}
use Rattle.tui_program.specs.declared.stop.Stop.TheVariants as stop
use Rattle.tui_system.specs.Left.{left_of}
use Rattle.tui_system.specs.Places.{IsPlaceFor, PlaceData}
use Rattle.tui_system.specs.System.{Given}
use Rattle.tui_system.specs.declared.left.Left.{Left}

-- nothing was written if the state is the same
pub untouched : (t : Observed) → Unwritten t t
untouched t = record { held = Keeps-self t.bytes; quiet = refl }

pub untouched_same : (old new : Observed) → new ≡ old → Unwritten old new
untouched_same old new is = subst (λ (t : Observed). Unwritten old t) (sym is) (untouched old)

-- a browser of the folder
pub ends_begun : (F : Type 0) (lists : F → Lists) (given : Given) (paths : Paths) (old new chosen chosen_then : Observed) (opened : PlaceData → Type 0)
    (command named : FilesCommand) (begin : FilesApp F) (e : Result Left (Stop (Unit {0}))) →
    (named ≡ command) × BeginsIn paths (first_folder command.folder) begin →
    EndsBrowsing F lists given paths.is_folder old new chosen chosen_then opened named begin e →
    EndsWith F lists given paths old new chosen chosen_then opened command e
ends_begun F lists given paths old new chosen chosen_then opened command named begin e begins h =
    begun begin e begins.1 (subst (λ (n : FilesCommand). EndsBrowsing F lists given paths.is_folder old new chosen chosen_then opened n begin e) begins.0 h)

-- a folder that can't be read
pub ends_unbegun : (F : Type 0) (lists : F → Lists) (given : Given) (paths : Paths) (old chosen : Observed) (opened : PlaceData → Type 0) (command : FilesCommand)
    (stopped : Stop (Unit {0})) → BeginsOrStops {F = F} paths command (Err stopped) →
    EndsWith F lists given paths old old chosen chosen opened command (Err stopped)
ends_unbegun F lists given paths old chosen opened command stop.ReadFault cannot = cannot_begin cannot (untouched old) (untouched chosen)
ends_unbegun F lists given paths old chosen opened command stop.NoMemory h = without_memory (untouched old) (untouched chosen)
ends_unbegun F lists given paths old chosen opened command other h = absurd h

-- a destination that can't be opened
pub ends_unopened : (F : Type 0) (lists : F → Lists) (given : Given) (is_folder : List ℕ → Bool → Type 0) (old chosen chosen_then : Observed)
    (opened is_open_at : PlaceData → Type 0) (command : FilesCommand) (begin : FilesApp F) (place : Option PlaceData) (stopped : Stop (Unit {0})) →
    IsPlaceFor given command.chosen place → Readies chosen chosen_then is_open_at place (Err stopped) →
    EndsBrowsing F lists given is_folder old old chosen chosen_then opened command begin (Err stopped)
ends_unopened F lists given is_folder old chosen chosen_then opened is_open_at command begin place stop.WriteFault is h =
    cannot_open h.0.0 (subst (IsPlaceFor given command.chosen) h.0.1 is) (untouched old) h.1
ends_unopened F lists given is_folder old chosen chosen_then opened is_open_at command begin place stop.NoMemory is h =
    out_of_memory (untouched old) (untouched_same chosen chosen_then h)
ends_unopened F lists given is_folder old chosen chosen_then opened is_open_at command begin place other is h = absurd h

-- ---- after a session

-- the user quit, and there is a place for the path
pub ends_writing : (is_chosen : List ℕ → Type 0) (place : Option PlaceData) (p : PlaceData) (end : AppEnd) (old opened new : Observed)
    (e : Result Left (Stop (Unit {0}))) → place ≡ Some p → end ≡ ends.Quit → opened ≡ old → EndsWriting is_chosen opened new e →
    EndsChoosing is_chosen place end old new e
ends_writing is_chosen place p end old opened new e some quit same h = rw (some, quit) (subst (λ (t : Observed). EndsWriting is_chosen t new e) same h)

-- the session ended otherwise
pub ends_otherwise : (is_chosen : List ℕ → Type 0) (place : Option PlaceData) (end : AppEnd) (old new : Observed) (e : Result Left (Stop (Unit {0}))) →
    (end ≡ ends.Quit → ⊥) → new ≡ old → e ≡ left_of end → EndsChoosing is_chosen place end old new e
ends_otherwise is_chosen (Some place) ends.Quit old new e other same is = absurd (other refl)
ends_otherwise is_chosen place end old new e other same is = (is, untouched_same old new same)

-- there is no place
pub ends_nowhere : (is_chosen : List ℕ → Type 0) (place : Option PlaceData) (end : AppEnd) (old new : Observed) (e : Result Left (Stop (Unit {0}))) →
    place ≡ None → new ≡ old → e ≡ left_of end → EndsChoosing is_chosen place end old new e
ends_nowhere is_chosen place end old new e none same is = rw none (is, untouched_same old new same)
