-- The widgets of leaves and changes.
use Rattle.std.specs.Prelude.{ℕ, Result, Ok, Err}
use Rattle.serde_json.specs.Data.{Data}
use Rattle.tui_scene.specs.Item.{ItemData}
use Rattle.tui_schema.specs.Items.{item_without_area}
use Rattle.tui_schema.specs.declared.bad_field.BadField.{BadField}
use Rattle.tui_panes_run.specs.declared.refusal.PanesRefusal.{PanesRefusal}
use Rattle.tui_panes_run.specs.declared.refusal.PanesRefusal.TheVariants as refusals

-- a widget, or its field that is rejected
abbrev pub or_bad_field : Result ItemData BadField → Result ItemData PanesRefusal
or_bad_field (Ok item) = Ok item
or_bad_field (Err refusal) = Err (refusals.BadField refusal)

-- the widget of this number; its area is that of its leaf
abbrev pub widget_in : ℕ → Data → Result ItemData PanesRefusal
widget_in i d = or_bad_field (item_without_area i d)
