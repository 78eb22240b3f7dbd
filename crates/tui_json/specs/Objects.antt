-- Objects.
use Rattle.std.specs.Prelude.{ℕ, Bool, true, ◌&&◌, Option, Some, None, option_and_then, is_some, if◌then◌else◌}
use Rattle.serde_json.specs.Data.{Data, Items, no_items, item}
use Rattle.serde_json.specs.Find.{as_object}
use Rattle.tui_json.specs.Members.{elements_within}

abbrev pub is_object : Data → Bool
is_object d = is_some (as_object d)

-- an object
abbrev pub object_of : Data → Option Data
object_of d = if is_object d then Some d else None

-- whether every value is an object
unfoldable pub are_objects : Items → Bool
are_objects no_items = true
are_objects (item d ds) = is_object d && are_objects ds

abbrev pub if_objects : Items → Option Items
if_objects ds = if are_objects ds then Some ds else None

-- an array of at least and at most this many objects
abbrev pub objects_within : ℕ → ℕ → Data → Option Items
objects_within least most d = option_and_then if_objects (elements_within least most d)
