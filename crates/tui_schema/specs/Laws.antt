-- What holds of every scene that is rejected.
use Rattle.std.specs.Prelude.{◌≡◌, ℕ, Some, IsSome, Err}
use Rattle.serde_json.specs.Data.{Data}
use Rattle.tui_json.specs.Faults.{Leads}
use Rattle.tui_schema.specs.FieldFaults.{field_fault, scene_fault}
use Rattle.tui_schema.specs.Items.{item_without_area}
use Rattle.tui_schema.specs.Scene.{scene_of}
use Rattle.tui_schema.specs.declared.bad_field.BadField.{BadField}
use Rattle.tui_schema.specs.declared.field.Field.{Field}

-- A scene that is rejected has a fault, at the field that the rejection names, and its steps lead to what it says is there.
pub record ScenesAreExplained : Type 0 where
  pub found : (d : Data) (bad : BadField) → scene_of d ≡ Err bad → IsSome (scene_fault bad d)
  pub leads : (d : Data) (bad : BadField) → Leads (scene_fault bad d) d

-- The same for an item whose area is given elsewhere. The rejection has the number of the item.
pub record ItemsAreExplained : Type 0 where
  pub found : (i : ℕ) (d : Data) (bad : BadField) → item_without_area i d ≡ Err bad → (bad.item ≡ Some i) × IsSome (field_fault bad.field d)
  pub leads : (f : Field) (d : Data) → Leads (field_fault f d) d
