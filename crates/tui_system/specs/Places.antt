-- Places for what a program gives at its end.
use Rattle.std.specs.Prelude.{◌≡◌, ◌≢◌, ℕ, List, codes, false, true, Option, None, Some, String, string_bytes}
use Rattle.std.specs.declared.alloc.Global.{Global}
use Rattle.tui_system.specs.System.{Given}
use Rattle.tui_system.specs.declared.place.Place.{Place}
use Rattle.tui_system.specs.declared.place.Place.TheVariants as places

-- a place as plain data
pub data PlaceData : Type 0 where
  output : PlaceData
  errors : PlaceData
  file : List ℕ → PlaceData

abbrev pub place_data : Place → PlaceData
place_data places.Output = output
place_data places.Errors = errors
place_data (places.File name) = file name.now

-- The place that an argument names: the file of this name, or standard output for `-`. Without the argument it is
-- standard output if that is the user's and no terminal, or else there is none.
abbrev pub IsPlaceFor : Given → Option (String Global) → Option PlaceData → Type 0
IsPlaceFor given (Some name) (Some output) = string_bytes name ≡ codes "-"
IsPlaceFor given (Some name) (Some (file path)) = (path ≡ string_bytes name) × (path ≢ codes "-")
IsPlaceFor given None (Some output) = given.piped true
IsPlaceFor given None None = given.piped false
IsPlaceFor given argument place = ⊥
