-- The folder that a run begins in.
use Rattle.std.specs.Prelude.{◌≡◌, ℕ, Bool, List, codes, Option, None, Some, Result, Ok, Err, String, string_bytes}
use Rattle.std.specs.declared.alloc.Global.{Global}
use Rattle.tui_files_lib.specs.Browsing.{Begins, Lists}
use Rattle.tui_files_lib.specs.declared.files.FilesApp.{FilesApp}
use Rattle.tui_files_run.specs.declared.arguments.FilesCommand.{FilesCommand}
use Rattle.tui_files_run.specs.declared.browsing.Browsing.{Browsing}
use Rattle.tui_program.specs.declared.stop.Stop.{Stop}
use Rattle.tui_program.specs.declared.stop.Stop.TheVariants as stop

-- What a run asks of the file system: the listings that a folder may be read as, absolute paths, and which paths are
-- those of folders.
pub record Paths : Type 1 where
  pub lists : Lists
  pub resolves : List ℕ → Option (List ℕ) → Type 0
  pub is_folder : List ℕ → Bool → Type 0

-- the folder to begin in: FOLDER, or the current one
abbrev pub first_folder : Option (String Global) → List ℕ
first_folder None = codes "."
first_folder (Some folder) = string_bytes folder

-- the folder can't be read: none that can be is at the path, or it has no listing
pub data CannotBegin (paths : Paths) (folder : List ℕ) : Type 0 where
  missing : paths.resolves folder None → CannotBegin paths folder
  unreadable : (path : List ℕ) → paths.resolves folder (Some path) → paths.lists path None → CannotBegin paths folder

-- a browser of the folder, at its absolute path
pub record BeginsIn {F : Type 0} (paths : Paths) (folder : List ℕ) (app : FilesApp F) : Type 0 where
  pub path : List ℕ
  pub resolved : paths.resolves folder (Some path)
  pub begins : Begins paths.lists path app.browser

-- a browser of the folder that a command names; or the folder can't be read, or memory ran out
abbrev pub BeginsOrStops : {F : Type 0} → Paths → FilesCommand → Result (Browsing F) (Stop (Unit {0})) → Type 0
BeginsOrStops paths command (Ok browsing) = (browsing.command ≡ command) × BeginsIn paths (first_folder command.folder) browsing.app
BeginsOrStops paths command (Err stop.ReadFault) = CannotBegin paths (first_folder command.folder)
BeginsOrStops paths command (Err stop.NoMemory) = Unit {0}
BeginsOrStops paths command (Err other) = ⊥
