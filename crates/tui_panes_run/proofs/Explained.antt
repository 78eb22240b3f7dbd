-- An input that is rejected has a fault, whose steps lead to what it says is there.
use Rattle.std.proofs.Common.{Bool, true, false, ◌&&◌, nat_lt, if◌then◌else◌, zero, suc, ◌-◌, add-zero, zero-add, arith, ◌≡◌, ℕ, ◌+◌, List, ◌∷◌, IsSome, Option, Some, None, option_and_then, Result, Ok, Err, codes, refl, sym, ap, ◌∙◌}
use Rattle.std.proofs.Math.Numerals.{suc-eq-add-one}
use Rattle.serde_json.specs.Data.{Data, Items, no_items, item, null, boolean, number, string, array, object}
use Rattle.serde_json.specs.Find.{as_array, at as at_index, get, get_item}
use Rattle.tui_json.proofs.Leading.{FailsWith, accepted, bad_value, constraint_leads, counted_values, fails_optional, fails_required, is_there, leads_elements, leads_inside, leads_leaf, leads_member, leads_not_allowed, leads_of, leads_optional_member, leads_or, never_fails, object_values, one_then, optional_there, or_first, or_second, same_object, some_inside}
use Rattle.tui_json.specs.Constraint.{a_constraint, constraint_fault, constraint_of}
use Rattle.tui_json.specs.Faults as faults
use Rattle.tui_json.specs.Faults.{FaultData, Leads, WantedData, ◌or◌, elements_fault, fault_of, index, inside, key, member_fault, missing, no_parts, not_allowed, step_in, value_by}
use Rattle.tui_json.specs.Members.{elements_within, member, optional_member}
use Rattle.tui_json.specs.Named.{named_of}
use Rattle.tui_json.specs.Names.{directions, flexes}
use Rattle.tui_json.specs.Number.{u16_of, within}
use Rattle.tui_json.specs.Objects.{object_of, objects_within}
use Rattle.tui_json.specs.Refusals.{◌>>=◌, numbered, or_reject}
use Rattle.tui_layout.specs.declared.constraint.Constraint.{Constraint}
use Rattle.tui_cells.specs.declared.size.Size.{Size}
use Rattle.tui_scene.specs.Item.{ItemData}
use Rattle.tui_panes_lib.specs.Place.{PaneData, PartsData, part}
use Rattle.tui_panes_run.specs.Changes.{ChangeData, change_in, changes_in, each_change, in_change, leaf_number}
use Rattle.tui_panes_run.specs.Counts.{CountsData, most_panes, no_panes, with_split}
use Rattle.tui_panes_run.specs.Faults.{a_leaf, a_pane, array_fault, by_parts_fault, change_fault, changes_fault, each_change_fault, few_panes, input_fault, item_fault, leaf_fault, object_fault, pane_fault, part_fault, parts_fault, present_fault, root_fault, shape_fault, some_changes, some_parts, split_fault, unless_read, widget_fault}
use Rattle.tui_panes_run.specs.Input.{InputData, input_of, most_below, size_in}
use Rattle.tui_panes_run.specs.Refusals.{bad_pane}
use Rattle.tui_panes_run.specs.Tree as tree
use Rattle.tui_panes_run.specs.Tree.{JsonCommand, by_parts, leaf_in, lone_in, pane_in, part_in, parts_in, required, shape_in, split_in, unless_full, values_in}
use Rattle.tui_panes_run.specs.Widgets.{or_bad_field, widget_in}
use Rattle.tui_panes_run.specs.declared.change_field.ChangeField.TheVariants as changing
use Rattle.tui_panes_run.specs.declared.field.PaneField.TheVariants as fields
use Rattle.tui_panes_run.specs.declared.refusal.PanesRefusal.{PanesRefusal}
use Rattle.tui_schema.proofs.FieldsExplained.{item_found}
use Rattle.tui_schema.proofs.FieldsLead.{item_leads as field_leads}
use Rattle.tui_schema.specs.Faults.{an_object, named_fault, short_fault}
use Rattle.tui_schema.specs.FieldFaults.{a_side, side_fault}
use Rattle.tui_schema.specs.Items.{item_without_area}
use Rattle.tui_schema.specs.declared.bad_field.BadField.{BadField}

-- where tests fail, there is a fault
abbrev Finds : {A R : Type 0} → Option FaultData → Result A R → Type 0
Finds {R = R} fault tests = FailsWith {R = R} (λ refusal. IsSome fault) tests

-- ---- a pane is read as its faults are found

no_room : (a b : CountsData → Items → Option FaultData) (at : CountsData) (d : Data) → split_fault a 0 at d ≡ split_fault b 0 at d
unfolding split_fault
no_room a b at d = refl

pub fault_of_split : (room : ℕ) (at : CountsData) (d parts : Data) → get (codes "parts") d ≡ Some parts →
    pane_fault room at d ≡ split_fault (parts_fault (pane_in (room - 1)) (pane_fault (room - 1)) at.panes 0) room at d
unfolding pane_fault
fault_of_split zero at d parts is = ap (by_parts_fault (λ next values. None) zero at d) is ∙ no_room (λ next values. None) _ at d
fault_of_split (suc room) at d parts is =
    let e : suc room - 1 ≡ room = omega arith in
    ap (by_parts_fault (parts_fault (pane_in room) (pane_fault room) at.panes 0) (suc room) at d) is
    ∙ ap (λ (n : ℕ). split_fault (parts_fault (pane_in n) (pane_fault n) at.panes 0) (suc room) at d) (sym e)

pub fault_of_leaf : (room : ℕ) (at : CountsData) (d : Data) → get (codes "parts") d ≡ None → pane_fault room at d ≡ leaf_fault at d
unfolding pane_fault
fault_of_leaf zero at d is = rw is refl
fault_of_leaf (suc room) at d is = rw is refl

-- ---- a fault is found

object_there : (name : List ℕ) (d o : Data) → member object_of name d ≡ Some o → get name d ≡ Some o
object_there name d o is = let there = is_there object_of name d o is in there.1 ∙ ap Some (same_object there.0 o there.2)

widget_found : (n : ℕ) (d : Data) → Finds (widget_fault n d) (widget_in n d)
widget_found n d refusal e = by_item (item_without_area n d) refl e
  where
    by_item : (r : Result _ BadField) → item_without_area n d ≡ r → or_bad_field r ≡ Err refusal → IsSome (widget_fault n d)
    by_item (Ok shown) is e = cc
    by_item (Err bad) is e = rw is (item_found n d bad is).1

item_is_found : (n : ℕ) (d o : Data) → get (codes "item") d ≡ Some o → Finds (item_fault n d) (widget_in n o)
item_is_found n d o is refusal e = rw is (some_inside (key (codes "item")) (widget_fault n o) (widget_found n o refusal e))

leaf_found : (at : CountsData) (d : Data) → Finds (leaf_fault at d) (lone_in at d)
unfolding lone_in leaf_in leaf_fault
leaf_found at d = one_then _ (leaf_in at d) _ widget (λ shown is. never_fails _ _)
  where
    in_room : (o : Data) → get (codes "item") d ≡ Some o → (b : Bool) → nat_lt at.panes most_panes ≡ b →
        Finds (leaf_fault at d) (if b then widget_in at.leaves o else Err (bad_pane (Some at.panes) fields.Item))
    in_room o there true is refusal e = rw is (or_second _ _ (item_is_found at.leaves d o there refusal e))
    in_room o there false is refusal e = rw is (or_second _ _ (bad_value few_panes (codes "item") d o there))

    widget : Finds (leaf_fault at d) (leaf_in at d)
    widget = one_then _ (required object_of (Some at.panes) fields.Item d) _
        (fails_required _ object_of an_object no_parts (codes "item") _ d (λ is. or_first _ _ is))
        (λ o is. in_room o (object_there (codes "item") d o (accepted _ (member object_of (codes "item") d) o is)) (nat_lt at.panes most_panes) refl)

-- the first three faults of a split
in_shape : (a b rest : Option FaultData) → IsSome a → IsSome (a or b or rest)
in_shape a b rest is = or_first (a or b) rest (or_first a b is)

in_array : (a b rest : Option FaultData) → IsSome b → IsSome (a or b or rest)
in_array a b rest is = or_first (a or b) rest (or_second a b is)

shape_found : (n : ℕ) (d : Data) → Finds (shape_fault d) (shape_in n d)
unfolding shape_in shape_fault
shape_found n d = one_then _ _ _
    (fails_optional _ (named_of directions) _ no_parts (codes "direction") _ d (λ is. in_shape _ _ _ is))
    (λ direction is. one_then _ _ _
    (fails_optional _ u16_of (faults.number 0 65535) no_parts (codes "spacing") _ d (λ is. in_array _ _ _ is))
    (λ spacing is. one_then _ _ _
    (fails_optional _ (named_of flexes) _ no_parts (codes "flex") _ d (λ is. or_second _ _ is))
    (λ flex is. never_fails _ _)))

-- the parts are an array, and there is room for them
abbrev HasRoom : ℕ → CountsData → Data → Items → Type 0
HasRoom room at d ds = (nat_lt 0 room ≡ true) × (nat_lt at.panes most_panes ≡ true) × (member (objects_within 1 256) (codes "parts") d ≡ Some ds)

has_room : (room : ℕ) (at : CountsData) (d : Data) (ds : Items) → values_in room at d ≡ Ok ds → HasRoom room at d ds
unfolding values_in
has_room room at d ds e = by_member (member (objects_within 1 256) (codes "parts") d) refl e
  where
    by_tests : (values : Items) (r m : Bool) → nat_lt 0 room ≡ r → nat_lt at.panes most_panes ≡ m → member (objects_within 1 256) (codes "parts") d ≡ Some values →
        (if r then (if m then Ok values else Err (bad_pane (Some at.panes) fields.Parts)) else Err (bad_pane (Some at.panes) fields.Parts)) ≡ Ok ds → HasRoom room at d ds
    by_tests values true true room few is e = (room, few, is ∙ cc)
    by_tests values true false room few is e = cc
    by_tests values false m room few is e = cc

    by_member : (found : Option Items) → member (objects_within 1 256) (codes "parts") d ≡ found →
        (or_reject (bad_pane (Some at.panes) fields.Parts) found >>= λ values.
        if nat_lt 0 room then unless_full at fields.Parts (Ok values) else Err (bad_pane (Some at.panes) fields.Parts)) ≡ Ok ds → HasRoom room at d ds
    by_member None is e = cc
    by_member (Some values) is e = by_tests values (nat_lt 0 room) (nat_lt at.panes most_panes) refl refl is e

-- a split is read as its faults are found, if its parts are
split_found : (pane_of : JsonCommand PaneData) (parts : CountsData → Items → Option FaultData) (room : ℕ) (at : CountsData) (d p : Data) →
    get (codes "parts") d ≡ Some p → ((ds : Items) → nat_lt 0 room ≡ true → Finds (parts (with_split at) ds) (parts_in pane_of at.panes (with_split at) ds)) →
    Finds (split_fault parts room at d) (split_in pane_of room at d)
unfolding split_in split_fault values_in
split_found pane_of parts room at d p there found = one_then _ (shape_in at.panes d) _
    (λ refusal e. in_shape _ _ _ (shape_found at.panes d refusal e))
    (λ shape is. one_then _ (values_in room at d) _ values
    (λ ds is. one_then _ (parts_in pane_of at.panes (with_split at) ds) _ (each ds (has_room room at d ds is)) (λ read is. never_fails _ _)))
  where
    full : (r m : Bool) → nat_lt 0 room ≡ r → nat_lt at.panes most_panes ≡ m → (ds : Items) → Finds (split_fault parts room at d)
        (if r then (if m then Ok ds else Err (bad_pane (Some at.panes) fields.Parts)) else Err (bad_pane (Some at.panes) fields.Parts))
    full true true is so ds refusal e = cc
    full true false is so ds refusal e = rw (is, so) (or_second _ _ (bad_value few_panes (codes "parts") d p there))
    full false m is so ds refusal e = rw is (or_second _ _ (bad_value few_panes (codes "parts") d p there))

    values : Finds (split_fault parts room at d) (values_in room at d)
    values = one_then _ (required (objects_within 1 256) (Some at.panes) fields.Parts d) _
        (fails_required _ (objects_within 1 256) some_parts (elements_fault object_fault) (codes "parts") _ d (λ is. in_array _ _ _ is))
        (λ ds is. full (nat_lt 0 room) (nat_lt at.panes most_panes) refl refl ds)

    each : (ds : Items) → HasRoom room at d ds → Finds (split_fault parts room at d) (parts_in pane_of at.panes (with_split at) ds)
    each ds has refusal e =
        let array = is_there (objects_within 1 256) (codes "parts") d ds has.2 in
        rw (has.0, has.1, array.1, object_values 1 256 array.0 ds array.2)
        (or_second _ _ (some_inside (key (codes "parts")) (parts (with_split at) ds) (found ds has.0 refusal e)))

part_found : (pane_of : JsonCommand PaneData) (fault : CountsData → Data → Option FaultData) (n : ℕ) (at : CountsData) (d : Data) →
    ((p : Data) → Finds (fault at p) (pane_of at p)) → Finds (part_fault fault at d) (part_in pane_of n at d)
unfolding part_in part_fault
part_found pane_of fault n at d found = one_then _ (required constraint_of (Some n) fields.Size d) _
    (fails_required _ constraint_of a_constraint constraint_fault (codes "size") _ d (λ is. or_first _ _ is))
    (λ size is. by_pane size (get (codes "pane") d) refl)
  where
    sized : Option FaultData
    sized = member_fault a_constraint (fault_of constraint_of a_constraint constraint_fault) (codes "size") d

    by_pane : (size : Constraint) (p : Option Data) → get (codes "pane") d ≡ p → Finds {A = (Constraint × PaneData) × CountsData} (part_fault fault at d)
        (or_reject (bad_pane (Some at.panes) fields.Item) p >>= λ value. pane_of at value >>= λ pane. Ok ((size, pane.0), pane.1))
    by_pane size None is refusal e = rw is (or_second sized (inside (key (codes "pane")) (Some (missing a_pane))) refl)
    by_pane size (Some p) is refusal e = one_then (λ (r : PanesRefusal). IsSome (part_fault fault at d)) (pane_of at p) _
        (λ refusal e. rw is (or_second sized (inside (key (codes "pane")) (fault at p)) (some_inside (key (codes "pane")) (fault at p) (found p refusal e)))) (λ pane is. never_fails _ _) refusal e

parts_found : (pane_of : JsonCommand PaneData) (fault : CountsData → Data → Option FaultData) (n i : ℕ) (at : CountsData) (ds : Items) →
    ((at : CountsData) (p : Data) → Finds (fault at p) (pane_of at p)) → Finds (parts_fault pane_of fault n i at ds) (parts_in pane_of n at ds)
unfolding parts_in parts_fault
parts_found pane_of fault n i at no_items found = never_fails _ _
parts_found pane_of fault n i at (item d ds) found =
    by_part (λ first. parts_found pane_of fault n (i + 1) first.1 ds found) (part_in pane_of n at d) refl
  where
    rest : (r : Result ((Constraint × PaneData) × CountsData) PanesRefusal) → Result (PartsData × CountsData) PanesRefusal
    rest r = r >>= λ first. parts_in pane_of n first.1 ds >>= λ others. Ok (part first.0.0 first.0.1 others.0, others.1)

    by_part : ((first : (Constraint × PaneData) × CountsData) →
        Finds (parts_fault pane_of fault n (i + 1) first.1 ds) (parts_in pane_of n first.1 ds)) →
        (r : Result ((Constraint × PaneData) × CountsData) PanesRefusal) → part_in pane_of n at d ≡ r →
        Finds (unless_read r (λ first. parts_fault pane_of fault n (i + 1) first.1 ds) (inside (index i) (part_fault fault at d))) (rest r)
    by_part later (Ok first) is refusal e = one_then _ (parts_in pane_of n first.1 ds) _ (later first) (λ others is. never_fails _ _) refusal e
    by_part later (Err y) is refusal e = some_inside (index i) (part_fault fault at d) (part_found pane_of fault n at d (found at) y is)

pane_found : (room : ℕ) (at : CountsData) (d : Data) → Finds (pane_fault room at d) (pane_in room at d)
unfolding pane_in pane_fault
pane_found zero at d = by_parts_found (get (codes "parts") d) refl
  where
    none : (ds : Items) → nat_lt 0 0 ≡ true → Finds {R = PanesRefusal} None (parts_in lone_in at.panes (with_split at) ds)
    none ds e = absurd cc

    by_parts_found : (parts : Option Data) → get (codes "parts") d ≡ parts →
        Finds (by_parts_fault (λ next values. None) zero at d parts) (by_parts lone_in zero at d parts)
    by_parts_found None is = leaf_found at d
    by_parts_found (Some p) is = split_found lone_in (λ next values. None) zero at d p is none
pane_found (suc room) at d = by_parts_found (pane_found room) (get (codes "parts") d) refl
  where
    by_parts_found : ((at : CountsData) (p : Data) → Finds (pane_fault room at p) (pane_in room at p)) →
        (parts : Option Data) → get (codes "parts") d ≡ parts →
        Finds (by_parts_fault (parts_fault (pane_in room) (pane_fault room) at.panes 0) (suc room) at d parts) (by_parts (pane_in room) (suc room) at d parts)
    by_parts_found below None is = leaf_found at d
    by_parts_found below (Some p) is = split_found (pane_in room) (parts_fault (pane_in room) (pane_fault room) at.panes 0) (suc room) at d p is
        (λ ds room_is. parts_found (pane_in room) (pane_fault room) at.panes 0 (with_split at) ds below)

change_found : (leaves i : ℕ) (d : Data) → Finds (change_fault leaves i d) (change_in leaves i d)
unfolding change_in change_fault
change_found leaves i d = one_then _ (in_change (leaf_number leaves) changing.Leaf d) _
    (fails_required _ (leaf_number leaves) (a_leaf leaves) no_parts (codes "leaf") _ d (λ is. in_shape _ _ _ is))
    (λ leaf is. one_then _ (in_change object_of changing.Item d) _
    (fails_required _ object_of an_object no_parts (codes "item") _ d (λ is. in_array _ _ _ is))
    (λ o is. one_then _ (widget_in (leaves + i) o) _
    (λ refusal e. or_second _ _ (item_is_found (leaves + i) d o (object_there (codes "item") d o (accepted _ (member object_of (codes "item") d) o is)) refusal e))
    (λ widget is. never_fails _ _)))

each_change_found : (leaves i : ℕ) (ds : Items) → Finds (each_change_fault leaves i ds) (numbered (change_in leaves) i ds)
unfolding numbered each_change_fault
each_change_found leaves i no_items = never_fails _ _
each_change_found leaves i (item d ds) = by_change (each_change_found leaves (i + 1) ds) (change_in leaves i d) refl
  where
    by_change : Finds (each_change_fault leaves (i + 1) ds) (numbered (change_in leaves) (i + 1) ds) →
        (r : Result ChangeData PanesRefusal) → change_in leaves i d ≡ r →
        Finds (unless_read r (λ change. each_change_fault leaves (i + 1) ds) (inside (index i) (change_fault leaves i d)))
        (r >>= λ first. numbered (change_in leaves) (i + 1) ds >>= λ rest. Ok (first ∷ rest))
    by_change later (Ok first) is refusal e = one_then _ (numbered (change_in leaves) (i + 1) ds) _ later (λ rest is. never_fails _ _) refusal e
    by_change later (Err y) is refusal e = some_inside (index i) (change_fault leaves i d) (change_found leaves i d y is)

changes_found : (leaves : ℕ) (d : Data) → Finds (changes_fault leaves d) (changes_in leaves d)
unfolding changes_in changes_fault
changes_found leaves d = one_then _ (tree.optional (elements_within 0 256) None fields.Changes d) _
    (fails_optional _ (elements_within 0 256) some_changes no_parts (codes "changes") _ d (λ is. or_first _ _ is))
    (λ values is. each values (accepted _ (optional_member (elements_within 0 256) (codes "changes") d) values is))
  where
    each : (values : Option Items) → optional_member (elements_within 0 256) (codes "changes") d ≡ Some values →
        Finds (changes_fault leaves d) (each_change leaves values)
    each None is refusal e = cc
    each (Some ds) is refusal e =
        let there = optional_there (elements_within 0 256) (codes "changes") d ds is in
        rw (there.1, counted_values 0 256 there.0 ds there.2)
        (or_second _ _ (some_inside (key (codes "changes")) (each_change_fault leaves 0 ds) (each_change_found leaves 0 ds refusal e)))

-- the tree and the changes, after the size
tail_in : Size → Data → Option Data → Result InputData PanesRefusal
tail_in size d root = or_reject (bad_pane None fields.Root) root >>= λ value. pane_in most_below no_panes value >>= λ read.
    changes_in read.1.leaves d >>= λ changes. Ok (record { size = size; root = read.0; changes = changes })

root_found : (size : Size) (d : Data) → Finds (root_fault d) (tail_in size d (get (codes "root") d))
unfolding root_fault tail_in
root_found size d = by_root (get (codes "root") d) refl
  where
    after : (p : Data) (r : Result (PaneData × CountsData) PanesRefusal) → pane_in most_below no_panes p ≡ r →
        Finds {A = InputData} (unless_read r (λ read. changes_fault read.1.leaves d) (inside (key (codes "root")) (pane_fault most_below no_panes p)))
        (r >>= λ read. changes_in read.1.leaves d >>= λ changes. Ok (record { size = size; root = read.0; changes = changes }))
    after p (Ok read) is refusal e =
        one_then _ (changes_in read.1.leaves d) _ (changes_found read.1.leaves d) (λ changes is. never_fails _ _) refusal e
    after p (Err y) is refusal e =
        some_inside (key (codes "root")) (pane_fault most_below no_panes p) (pane_found most_below no_panes p y is)

    by_root : (root : Option Data) → get (codes "root") d ≡ root → Finds (root_fault d) (tail_in size d root)
    by_root None is refusal e = rw is refl
    by_root (Some p) is refusal e = rw is (after p (pane_in most_below no_panes p) refl refusal e)

pub input_found : (d : Data) (refusal : PanesRefusal) → input_of d ≡ Err refusal → IsSome (input_fault d)
unfolding input_of input_fault size_in tail_in
input_found d = one_then _ (size_in d) (λ size. tail_in size d (get (codes "root") d))
    (one_then _ _ _ (fails_required _ (within 1 1000) a_side no_parts (codes "width") _ d (λ is. in_shape _ _ _ is))
    (λ width is. one_then _ _ _ (fails_required _ (within 1 1000) a_side no_parts (codes "height") _ d (λ is. in_array _ _ _ is))
    (λ height is. never_fails _ _)))
    (λ size is refusal e. or_second _ _ (root_found size d refusal e))

-- ---- steps lead to what is there

widget_leads : (n : ℕ) (d : Data) → Leads (widget_fault n d) d
widget_leads n d = by_item (item_without_area n d) refl
  where
    by_item : (r : Result ItemData BadField) → item_without_area n d ≡ r → Leads (widget_fault n d) d
    by_item (Ok shown) is = rw is tt
    by_item (Err bad) is = rw is (field_leads bad.field d)

item_leads : (n : ℕ) (d : Data) → Leads (item_fault n d) d
item_leads n d = by_item (get (codes "item") d) refl
  where
    by_item : (o : Option Data) → get (codes "item") d ≡ o → Leads (item_fault n d) d
    by_item None is = rw is tt
    by_item (Some o) is = rw is (leads_inside (key (codes "item")) (widget_fault n o) d o is (widget_leads n o))

object_leads : (m : Data) → Leads (object_fault m) m
object_leads = leads_leaf object_of an_object

leaf_leads : (at : CountsData) (d : Data) → Leads (leaf_fault at d) d
unfolding leaf_fault
leaf_leads at d = leads_or _ _ d (leads_member an_object object_fault (codes "item") d object_leads) (by_room (nat_lt at.panes most_panes))
  where
    by_room : (b : Bool) → Leads (if b then item_fault at.leaves d else not_allowed few_panes (codes "item") d) d
    by_room true = item_leads at.leaves d
    by_room false = leads_not_allowed few_panes (codes "item") d

shape_leads : (d : Data) → Leads (shape_fault d) d
unfolding shape_fault
shape_leads d = leads_or _ _ d (leads_or _ _ d
    (leads_optional_member (named_fault directions) (codes "direction") d (leads_leaf (named_of directions) _))
    (leads_optional_member short_fault (codes "spacing") d (leads_leaf u16_of _)))
    (leads_optional_member (named_fault flexes) (codes "flex") d (leads_leaf (named_of flexes) _))

array_leads : (d : Data) → Leads (array_fault d) d
array_leads d = leads_member some_parts _ (codes "parts") d
    (λ m. leads_of (objects_within 1 256) some_parts (elements_fault object_fault) m (leads_elements object_fault m object_leads))

-- the faults of the values of an array that is a member
in_member : (name : List ℕ) (fault : Items → Option FaultData) (d : Data) →
    ((m : Data) (ds : Items) → as_array m ≡ Some ds → Leads (fault ds) m) →
    Leads (inside (key name) (option_and_then fault (option_and_then as_array (get name d)))) d
in_member name fault d leads = by_member (get name d) refl
  where
    by_array : (m : Data) (a : Option Items) → get name d ≡ Some m → as_array m ≡ a →
        Leads (inside (key name) (option_and_then fault (option_and_then as_array (get name d)))) d
    by_array m None is so = rw (is, so) tt
    by_array m (Some ds) is so = rw (is, so) (leads_inside (key name) (fault ds) d m is (leads m ds so))

    by_member : (found : Option Data) → get name d ≡ found →
        Leads (inside (key name) (option_and_then fault (option_and_then as_array (get name d)))) d
    by_member None is = rw is tt
    by_member (Some m) is = by_array m (as_array m) is refl

split_leads : (parts : CountsData → Items → Option FaultData) (room : ℕ) (at : CountsData) (d : Data) →
    ((m : Data) (ds : Items) → as_array m ≡ Some ds → Leads (parts (with_split at) ds) m) → Leads (split_fault parts room at d) d
unfolding split_fault
split_leads parts room at d leads =
    leads_or _ _ d (leads_or _ _ d (shape_leads d) (array_leads d)) (by_room (nat_lt 0 room && nat_lt at.panes most_panes))
  where
    by_room : (b : Bool) → Leads (if b
        then inside (key (codes "parts")) (option_and_then (parts (with_split at)) (option_and_then as_array (get (codes "parts") d)))
        else not_allowed few_panes (codes "parts") d) d
    by_room true = in_member (codes "parts") (parts (with_split at)) d leads
    by_room false = leads_not_allowed few_panes (codes "parts") d

present_leads : (wanted : WantedData) (fault : Data → Option FaultData) (name : List ℕ) (d : Data) → ((m : Data) → Leads (fault m) m) →
    Leads (present_fault wanted fault name d) d
unfolding value_by
present_leads wanted fault name d leads = by_get (get name d) refl
  where
    by_get : (found : Option Data) → get name d ≡ found → Leads (present_fault wanted fault name d) d
    by_get None is = rw is is
    by_get (Some m) is = rw is (leads_inside (key name) (fault m) d m is (leads m))

part_leads : (fault : CountsData → Data → Option FaultData) (at : CountsData) (d : Data) → ((p : Data) → Leads (fault at p) p) →
    Leads (part_fault fault at d) d
unfolding part_fault
part_leads fault at d leads = leads_or _ _ d
    (leads_member a_constraint _ (codes "size") d (λ m. leads_of constraint_of a_constraint constraint_fault m (constraint_leads m)))
    (present_leads a_pane (fault at) (codes "pane") d leads)

unless_leads : {A R : Type 0} (r : Result A R) (rest : A → Option FaultData) (fault : Option FaultData) (d : Data) →
    ((read : A) → Leads (rest read) d) → Leads fault d → Leads (unless_read r rest fault) d
unless_leads (Ok read) rest fault d others one = others read
unless_leads (Err y) rest fault d others one = one

next : (n j : ℕ) → n + 1 + j ≡ n + suc j
next n j = omega (arith, suc-eq-add-one j)

-- the values from an index on lie in an array
abbrev AreIn : ℕ → Items → Data → Type 0
AreIn i ds m = (j : ℕ) → at_index (i + j) m ≡ get_item j ds

first_in : (i : ℕ) (d : Data) (ds : Items) (m : Data) → AreIn i (item d ds) m → step_in (index i) m ≡ Some d
first_in i d ds m are = ap (λ k. at_index k m) (sym (add-zero i)) ∙ are 0

rest_in : (i : ℕ) (d : Data) (ds : Items) (m : Data) → AreIn i (item d ds) m → AreIn (i + 1) ds m
rest_in i d ds m are j = ap (λ k. at_index k m) (next i j) ∙ are (suc j)

all_in : (m : Data) (ds : Items) → as_array m ≡ Some ds → AreIn 0 ds m
all_in null ds e j = cc
all_in (boolean b) ds e j = cc
all_in (number n) ds e j = cc
all_in (string t) ds e j = cc
all_in (array all) ds e j = ap (λ k. get_item k all) (zero-add j) ∙ ap (get_item j) (same all ds e)
  where
    same : (a b : Items) → Some a ≡ Some b → a ≡ b
    same a b e = cc
all_in (object ms) ds e j = cc

parts_leads : (pane_of : JsonCommand PaneData) (fault : CountsData → Data → Option FaultData) (n i : ℕ) (at : CountsData) (ds : Items) (m : Data) →
    ((at : CountsData) (p : Data) → Leads (fault at p) p) → AreIn i ds m → Leads (parts_fault pane_of fault n i at ds) m
unfolding parts_fault
parts_leads pane_of fault n i at no_items m leads are = tt
parts_leads pane_of fault n i at (item d ds) m leads are = unless_leads (part_in pane_of n at d) _ _ m
    (λ first. parts_leads pane_of fault n (i + 1) first.1 ds m leads (rest_in i d ds m are))
    (leads_inside (index i) (part_fault fault at d) m d (first_in i d ds m are) (part_leads fault at d (leads at)))

pane_leads : (room : ℕ) (at : CountsData) (d : Data) → Leads (pane_fault room at d) d
unfolding pane_fault
pane_leads zero at d = by_parts_leads (get (codes "parts") d)
  where
    by_parts_leads : (parts : Option Data) → Leads (by_parts_fault (λ next values. None) zero at d parts) d
    by_parts_leads None = leaf_leads at d
    by_parts_leads (Some p) = split_leads (λ next values. None) zero at d (λ m ds is. tt)
pane_leads (suc room) at d = by_parts_leads (pane_leads room) (get (codes "parts") d)
  where
    by_parts_leads : ((at : CountsData) (p : Data) → Leads (pane_fault room at p) p) → (parts : Option Data) →
        Leads (by_parts_fault (parts_fault (pane_in room) (pane_fault room) at.panes 0) (suc room) at d parts) d
    by_parts_leads below None = leaf_leads at d
    by_parts_leads below (Some p) = split_leads (parts_fault (pane_in room) (pane_fault room) at.panes 0) (suc room) at d
        (λ m ds is. parts_leads (pane_in room) (pane_fault room) at.panes 0 (with_split at) ds m below (all_in m ds is))

change_leads : (leaves i : ℕ) (d : Data) → Leads (change_fault leaves i d) d
unfolding change_fault
change_leads leaves i d = leads_or _ _ d (leads_or _ _ d
    (leads_member (a_leaf leaves) _ (codes "leaf") d (leads_leaf (leaf_number leaves) (a_leaf leaves)))
    (leads_member an_object object_fault (codes "item") d object_leads)) (item_leads (leaves + i) d)

each_change_leads : (leaves i : ℕ) (ds : Items) (m : Data) → AreIn i ds m → Leads (each_change_fault leaves i ds) m
unfolding each_change_fault
each_change_leads leaves i no_items m are = tt
each_change_leads leaves i (item d ds) m are = unless_leads (change_in leaves i d) _ _ m
    (λ change. each_change_leads leaves (i + 1) ds m (rest_in i d ds m are))
    (leads_inside (index i) (change_fault leaves i d) m d (first_in i d ds m are) (change_leads leaves i d))

changes_leads : (leaves : ℕ) (d : Data) → Leads (changes_fault leaves d) d
unfolding changes_fault
changes_leads leaves d = leads_or _ _ d
    (leads_optional_member _ (codes "changes") d (leads_leaf (elements_within 0 256) some_changes))
    (in_member (codes "changes") (each_change_fault leaves 0) d (λ m ds is. each_change_leads leaves 0 ds m (all_in m ds is)))

root_leads : (d : Data) → Leads (root_fault d) d
unfolding root_fault value_by
root_leads d = by_root (get (codes "root") d) refl
  where
    by_root : (root : Option Data) → get (codes "root") d ≡ root → Leads (root_fault d) d
    by_root None is = rw is is
    by_root (Some p) is = rw is (unless_leads (pane_in most_below no_panes p) _ _ d (λ read. changes_leads read.1.leaves d)
        (leads_inside (key (codes "root")) (pane_fault most_below no_panes p) d p is (pane_leads most_below no_panes p)))

side_leads : (name : List ℕ) (d : Data) → Leads (member_fault a_side side_fault name d) d
side_leads name d = leads_member a_side side_fault name d (leads_leaf (within 1 1000) a_side)

pub input_leads : (d : Data) → Leads (input_fault d) d
unfolding input_fault
input_leads d = leads_or _ _ d (leads_or _ _ d (side_leads (codes "width") d) (side_leads (codes "height") d)) (root_leads d)
