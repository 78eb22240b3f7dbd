-- Scenes: their fields in order, then each item. The first test that fails rejects the scene.
use Rattle.std.specs.Prelude.{ℕ, List, Option, None, Result, Ok}
use Rattle.serde_json.specs.Data.{Data, Items}
use Rattle.tui_scene.specs.Item.{PlacedData}
use Rattle.tui_schema.specs.declared.field.Field.TheVariants as fields
use Rattle.tui_schema.specs.declared.reading.Reading.{Reading}
use Rattle.tui_schema.specs.Items.{items_of}
use Rattle.tui_json.specs.Members.{elements_within}
use Rattle.tui_json.specs.Number.{within}
use Rattle.tui_json.specs.Refusals.{◌>>=◌}
use Rattle.tui_schema.specs.Refusals.{required}
use Rattle.tui_schema.specs.declared.bad_field.BadField.{BadField}

-- a scene: its size in columns and rows, and its items in order
pub record SceneData : Type 0 where
  pub width : ℕ
  pub height : ℕ
  pub items : List PlacedData

-- a scene of the code as plain data
abbrev pub reading_data : Reading → SceneData
reading_data r = record { width = r.width; height = r.height; items = r.scene }

-- a width or a height of a scene
abbrev pub side_of : Data → Option ℕ
side_of = within 1 1000

-- the values of the items
abbrev pub item_values_of : Data → Option Items
item_values_of = elements_within 0 256

-- a value that is no object has no fields, so it is rejected at `width`
unfoldable pub scene_of : Data → Result SceneData BadField
scene_of d = do
  width ← required side_of None fields.Width d
  height ← required side_of None fields.Height d
  values ← required item_values_of None fields.Items d
  items ← items_of 0 values
  Ok (record { width = width; height = height; items = items })
