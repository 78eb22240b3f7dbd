-- The changes, one by one.
use Rattle.std.specs.Prelude.{ℕ, ◌+◌, List, [], Option, Some, None, option_and_then, Result, Ok, codes}
use Rattle.serde_json.specs.Data.{Data, Items}
use Rattle.tui_json.specs.Members.{elements_within}
use Rattle.tui_json.specs.Number.{below, u64_of}
use Rattle.tui_json.specs.Refusals.{◌>>=◌, numbered}
use Rattle.tui_json.specs.Refusals as tests
use Rattle.tui_scene.specs.Item.{ItemData, item_data}
use Rattle.tui_json.specs.Objects.{object_of}
use Rattle.tui_panes_run.specs.Refusals.{bad_pane}
use Rattle.tui_panes_run.specs.Tree.{optional}
use Rattle.tui_panes_run.specs.Widgets.{widget_in}
use Rattle.tui_panes_run.specs.declared.change.PaneChange.{PaneChange}
use Rattle.tui_panes_run.specs.declared.change_field.ChangeField.{ChangeField}
use Rattle.tui_panes_run.specs.declared.change_field.ChangeField.TheVariants as changing
use Rattle.tui_panes_run.specs.declared.field.PaneField.TheVariants as fields
use Rattle.tui_panes_run.specs.declared.refusal.PanesRefusal.{PanesRefusal}

-- the number of a leaf, and the widget that replaces the leaf's
pub record ChangeData : Type 0 where
  pub leaf : ℕ
  pub item : ItemData

abbrev pub change_data : PaneChange → ChangeData
change_data c = record { leaf = c.leaf; item = item_data c.item }

abbrev pub change_key : ChangeField → List ℕ
change_key changing.Leaf = codes "leaf"
change_key changing.Item = codes "item"

-- an invalid change is reported as the field `changes` of the input
abbrev pub bad_change : PanesRefusal
bad_change = bad_pane None fields.Changes

abbrev pub in_change : {A : Type 0} → (Data → Option A) → ChangeField → Data → Result A PanesRefusal
in_change kind field d = tests.required kind (change_key field) bad_change d

-- a number less than the number of leaves
abbrev pub leaf_number : ℕ → Data → Option ℕ
leaf_number leaves d = option_and_then (below leaves) (u64_of d)

-- the change of an index, where there are `leaves` leaves. A value that is not an object has no fields. The number of
-- its widget follows those of the leaves.
unfoldable pub change_in : ℕ → ℕ → Data → Result ChangeData PanesRefusal
change_in leaves i d = do
  leaf ← in_change (leaf_number leaves) changing.Leaf d
  value ← in_change object_of changing.Item d
  widget ← widget_in (leaves + i) value
  Ok (record { leaf = leaf; item = widget })

abbrev pub each_change : ℕ → Option Items → Result (List ChangeData) PanesRefusal
each_change leaves None = Ok []
each_change leaves (Some values) = numbered (change_in leaves) 0 values

unfoldable pub changes_in : ℕ → Data → Result (List ChangeData) PanesRefusal
changes_in leaves d = do
  values ← optional (elements_within 0 256) None fields.Changes d
  each_change leaves values
