-- Where a rejected input has the value that is not valid, and what that should be: the first one, in the order in which
-- the input is read.
use Rattle.std.specs.Prelude.{ℕ, zero, suc, ◌+◌, ◌-◌, ◌&&◌, nat_lt, if◌then◌else◌, List, Option, Some, None, Result, Ok, Err, codes, option_and_then}
use Rattle.serde_json.specs.Data.{Data, Items, no_items, item}
use Rattle.serde_json.specs.Find.{as_array, get}
use Rattle.tui_json.specs.Constraint.{a_constraint, constraint_fault, constraint_of}
use Rattle.tui_json.specs.Faults as faults
use Rattle.tui_json.specs.Faults.{FaultData, WantedData, ◌or◌, elements_fault, fault_of, index, inside, key, member_fault, missing, no_parts, not_allowed, optional_member_fault, values, words}
use Rattle.tui_json.specs.Members.{elements_within}
use Rattle.tui_json.specs.Names.{directions, flexes}
use Rattle.tui_json.specs.Objects.{object_of, objects_within}
use Rattle.tui_panes_lib.specs.Place.{PaneData}
use Rattle.tui_panes_run.specs.Changes.{change_in, leaf_number}
use Rattle.tui_panes_run.specs.Counts.{CountsData, most_panes, no_panes, with_split}
use Rattle.tui_panes_run.specs.Input.{most_below}
use Rattle.tui_panes_run.specs.Tree.{JsonCommand, pane_in, part_in}
use Rattle.tui_schema.specs.Faults.{Finds, an_object, named_fault, short_fault}
use Rattle.tui_schema.specs.FieldFaults.{a_side, field_fault, side_fault}
use Rattle.tui_schema.specs.Items.{item_without_area}
use Rattle.tui_schema.specs.declared.bad_field.BadField.{BadField}

-- ---- widgets

abbrev pub object_fault : Finds
object_fault = fault_of object_of an_object no_parts

-- the field that is rejected of a widget with this number
abbrev pub widget_fault : ℕ → Finds
widget_fault number d = by_item (item_without_area number d)
  where
    by_item : {A : Type 0} → Result A BadField → Option FaultData
    by_item (Ok shown) = None
    by_item (Err bad) = field_fault bad.field d

-- of the member `item`
abbrev pub item_fault : ℕ → Finds
item_fault number d = inside (key (codes "item")) (option_and_then (widget_fault number) (get (codes "item") d))

-- ---- panes

abbrev pub few_panes : WantedData
few_panes = words (codes "at most 256 panes, in at most 32 levels")

-- a leaf
unfoldable pub leaf_fault : CountsData → Finds
leaf_fault at d =
    member_fault an_object object_fault (codes "item") d
    or (if nat_lt at.panes most_panes then item_fault at.leaves d else not_allowed few_panes (codes "item") d)

-- how a split is cut
unfoldable pub shape_fault : Finds
shape_fault d =
    optional_member_fault (named_fault directions) (codes "direction") d
    or optional_member_fault short_fault (codes "spacing") d
    or optional_member_fault (named_fault flexes) (codes "flex") d

abbrev pub some_parts : WantedData
some_parts = values 1 256 (codes "objects")

-- the array of the parts of a split
abbrev pub array_fault : Finds
array_fault = member_fault some_parts (fault_of (objects_within 1 256) some_parts (elements_fault object_fault)) (codes "parts")

abbrev pub a_pane : WantedData
a_pane = words (codes "an object with `item` or `parts`")

-- a member that has to be there, with a fault of its own
abbrev pub present_fault : WantedData → Finds → List ℕ → Finds
present_fault wanted fault name d = inside (key name) (by_member (get name d))
  where
    by_member : Option Data → Option FaultData
    by_member None = Some (missing wanted)
    by_member (Some m) = fault m

-- a part: its size, and then its pane
unfoldable pub part_fault : (CountsData → Finds) → CountsData → Finds
part_fault fault at d =
    member_fault a_constraint (fault_of constraint_of a_constraint constraint_fault) (codes "size") d
    or present_fault a_pane (fault at) (codes "pane") d

-- what follows a value that was read, or the fault of one that was rejected
abbrev pub unless_read : {A R : Type 0} → Result A R → (A → Option FaultData) → Option FaultData → Option FaultData
unless_read (Ok read) rest fault = rest read
unless_read (Err refusal) rest fault = fault

-- the first part that is rejected; the next one has the index `i`
unfoldable pub parts_fault : JsonCommand PaneData → (CountsData → Finds) → ℕ → ℕ → CountsData → Items → Option FaultData
parts_fault pane_of fault number i at no_items = None
parts_fault pane_of fault number i at (item d ds) = unless_read (part_in pane_of number at d)
    (λ first. parts_fault pane_of fault number (i + 1) first.1 ds) (inside (index i) (part_fault fault at d))

-- the parts of a split, for which there may be no room; `parts` finds their faults
abbrev pub below_fault : (CountsData → Items → Option FaultData) → ℕ → CountsData → Finds
below_fault parts room at d =
    if nat_lt 0 room && nat_lt at.panes most_panes
    then inside (key (codes "parts")) (option_and_then (parts (with_split at)) (option_and_then as_array (get (codes "parts") d)))
    else not_allowed few_panes (codes "parts") d

-- a split that may have this many levels below it
unfoldable pub split_fault : (CountsData → Items → Option FaultData) → ℕ → CountsData → Finds
split_fault parts room at d = shape_fault d or array_fault d or below_fault parts room at d

-- a value with `parts` is a split, and one without is a leaf
abbrev pub by_parts_fault : (CountsData → Items → Option FaultData) → ℕ → CountsData → Data → Option Data → Option FaultData
by_parts_fault parts room at d (Some some) = split_fault parts room at d
by_parts_fault parts room at d None = leaf_fault at d

-- a pane that may have this many levels below its own
unfoldable pub pane_fault : ℕ → CountsData → Finds
pane_fault zero at d = by_parts_fault (λ next values. None) zero at d (get (codes "parts") d)
pane_fault (suc room) at d = by_parts_fault (parts_fault (pane_in room) (pane_fault room) at.panes 0) (suc room) at d (get (codes "parts") d)

-- ---- changes

-- the number of one of this many leaves
abbrev pub a_leaf : ℕ → WantedData
a_leaf leaves = faults.number 0 (leaves - 1)

-- the change of an index, where there are this many leaves
unfoldable pub change_fault : ℕ → ℕ → Finds
change_fault leaves i d =
    member_fault (a_leaf leaves) (fault_of (leaf_number leaves) (a_leaf leaves) no_parts) (codes "leaf") d
    or member_fault an_object object_fault (codes "item") d
    or item_fault (leaves + i) d

-- the first change that is rejected; the next one has the index `i`
unfoldable pub each_change_fault : ℕ → ℕ → Items → Option FaultData
each_change_fault leaves i no_items = None
each_change_fault leaves i (item d ds) =
    unless_read (change_in leaves i d) (λ change. each_change_fault leaves (i + 1) ds) (inside (index i) (change_fault leaves i d))

abbrev pub some_changes : WantedData
some_changes = values 0 256 (codes "values")

-- if the changes are an array
abbrev pub first_change_fault : ℕ → Finds
first_change_fault leaves d =
    inside (key (codes "changes")) (option_and_then (each_change_fault leaves 0) (option_and_then as_array (get (codes "changes") d)))

unfoldable pub changes_fault : ℕ → Finds
changes_fault leaves d =
    optional_member_fault (fault_of (elements_within 0 256) some_changes no_parts) (codes "changes") d
    or first_change_fault leaves d

-- ---- the input

-- the tree, and then the changes of its leaves
unfoldable pub root_fault : Finds
root_fault d = by_root (get (codes "root") d)
  where
    by_root : Option Data → Option FaultData
    by_root None = inside (key (codes "root")) (Some (missing a_pane))
    by_root (Some root) = unless_read (pane_in most_below no_panes root) (λ read. changes_fault read.1.leaves d)
        (inside (key (codes "root")) (pane_fault most_below no_panes root))

-- the value that is not valid
unfoldable pub input_fault : Finds
input_fault d = member_fault a_side side_fault (codes "width") d or member_fault a_side side_fault (codes "height") d or root_fault d
