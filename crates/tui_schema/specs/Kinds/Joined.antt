-- Arrays whose values are joined into one.
use Rattle.std.specs.Prelude.{Option, Some}
use Rattle.serde_json.specs.Data.{Data, Items, no_items, item}
use Rattle.tui_json.specs.Members.{◌>>=◌}

-- the values of an array, joined one after another
unfoldable pub joined_of : {A : Type 0} → (A → A → A) → (Data → Option A) → A → Items → Option A
joined_of join kind first no_items = Some first
joined_of join kind first (item d ds) = do
  x ← kind d
  joined_of join kind (join first x) ds
