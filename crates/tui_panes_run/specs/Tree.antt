-- The tree of panes. A split is tested before its parts, and its parts in order. The first test that fails decides why
-- the tree is rejected.
use Rattle.std.specs.Prelude.{ℕ, zero, suc, nat_lt, if◌then◌else◌, Option, Some, None, unwrap_or, Result, Ok, Err, codes}
use Rattle.serde_json.specs.Data.{Data, Items, no_items, item}
use Rattle.serde_json.specs.Find.{get}
use Rattle.tui_json.specs.Constraint.{constraint_of}
use Rattle.tui_json.specs.Named.{named_of}
use Rattle.tui_json.specs.Names.{directions, flexes}
use Rattle.tui_json.specs.Number.{u16_of}
use Rattle.tui_json.specs.Refusals.{◌>>=◌, or_reject}
use Rattle.tui_json.specs.Refusals as tests
use Rattle.tui_layout.specs.declared.constraint.Constraint.{Constraint}
use Rattle.tui_layout.specs.declared.direction.Direction.TheVariants as directed
use Rattle.tui_layout.specs.declared.flex.Flex.TheVariants as flexing
use Rattle.tui_scene.specs.Item.{ItemData}
use Rattle.tui_panes_lib.specs.Place.{PaneData, PartsData, leaf, split, no_parts, part}
use Rattle.tui_panes_run.specs.Counts.{CountsData, most_panes, with_leaf, with_split}
use Rattle.tui_json.specs.Objects.{object_of, objects_within}
use Rattle.tui_panes_run.specs.Refusals.{bad_pane, field_name}
use Rattle.tui_panes_run.specs.Widgets.{widget_in}
use Rattle.tui_panes_run.specs.declared.field.PaneField.{PaneField}
use Rattle.tui_panes_run.specs.declared.field.PaneField.TheVariants as fields
use Rattle.tui_panes_run.specs.declared.refusal.PanesRefusal.{PanesRefusal}
use Rattle.tui_panes_run.specs.declared.shape.Shape.{Shape}

-- a required field
abbrev pub required : {A : Type 0} → (Data → Option A) → Option ℕ → PaneField → Data → Result A PanesRefusal
required kind at field d = tests.required kind (field_name field) (bad_pane at field) d

-- a field that may be absent or null
abbrev pub optional : {A : Type 0} → (Data → Option A) → Option ℕ → PaneField → Data → Result (Option A) PanesRefusal
optional kind at field d = tests.optional kind (field_name field) (bad_pane at field) d

-- reads a value with the counts of the panes before it, and gives the counts after it
abbrev pub JsonCommand : Type 0 → Type 0
JsonCommand A = CountsData → Data → Result (A × CountsData) PanesRefusal

-- one more pane is rejected at this field if the tree has as many as it may have
abbrev pub unless_full : {A : Type 0} → CountsData → PaneField → Result A PanesRefusal → Result A PanesRefusal
unless_full at field tests = if nat_lt at.panes most_panes then tests else Err (bad_pane (Some at.panes) field)

-- the widget of the next leaf; a value that is not an object has no fields
unfoldable pub leaf_in : CountsData → Data → Result ItemData PanesRefusal
leaf_in at d = do
  value ← required object_of (Some at.panes) fields.Item d
  unless_full at fields.Item (widget_in at.leaves value)

-- how a split is cut; by default Horizontal, without spacing, and Start
unfoldable pub shape_in : ℕ → Data → Result Shape PanesRefusal
shape_in number d = do
  direction ← optional (named_of directions) (Some number) fields.Direction d
  spacing ← optional u16_of (Some number) fields.Spacing d
  flex ← optional (named_of flexes) (Some number) fields.Flex d
  Ok (record { direction = unwrap_or direction directed.Horizontal; spacing = unwrap_or spacing 0; flex = unwrap_or flex flexing.Start })

-- the values of the parts of a split, which may have this many levels below it
unfoldable pub values_in : ℕ → CountsData → Data → Result Items PanesRefusal
values_in room at d = do
  values ← required (objects_within 1 256) (Some at.panes) fields.Parts d
  if nat_lt 0 room then unless_full at fields.Parts (Ok values) else Err (bad_pane (Some at.panes) fields.Parts)

-- a part of the split of this number: its size, and then its pane, which has a number of its own even if it is absent
unfoldable pub part_in : JsonCommand PaneData → ℕ → JsonCommand (Constraint × PaneData)
part_in pane_of number at d = do
  size ← required constraint_of (Some number) fields.Size d
  value ← or_reject (bad_pane (Some at.panes) fields.Item) (get (codes "pane") d)
  pane ← pane_of at value
  Ok ((size, pane.0), pane.1)

-- its parts one by one
unfoldable pub parts_in : JsonCommand PaneData → ℕ → CountsData → Items → Result (PartsData × CountsData) PanesRefusal
parts_in pane_of number at no_items = Ok (no_parts, at)
parts_in pane_of number at (item d ds) = do
  first ← part_in pane_of number at d
  rest ← parts_in pane_of number first.1 ds
  Ok (part first.0.0 first.0.1 rest.0, rest.1)

-- the next pane as a split
unfoldable pub split_in : JsonCommand PaneData → ℕ → JsonCommand PaneData
split_in pane_of room at d = do
  shape ← shape_in at.panes d
  values ← values_in room at d
  parts ← parts_in pane_of at.panes (with_split at) values
  Ok (split shape.direction shape.spacing shape.flex parts.0, parts.1)

-- the next pane as a leaf
unfoldable pub lone_in : JsonCommand PaneData
lone_in at d = do
  widget ← leaf_in at d
  Ok (leaf widget, with_leaf at)

-- a value with `parts` is a split, and one without is a leaf
abbrev pub by_parts : JsonCommand PaneData → ℕ → CountsData → Data → Option Data → Result (PaneData × CountsData) PanesRefusal
by_parts pane_of room at d (Some parts) = split_in pane_of room at d
by_parts pane_of room at d None = lone_in at d

-- the next pane, which may have this many levels below its own
unfoldable pub pane_in : ℕ → JsonCommand PaneData
pane_in zero at d = by_parts lone_in zero at d (get (codes "parts") d)
pane_in (suc room) at d = by_parts (pane_in room) (suc room) at d (get (codes "parts") d)
