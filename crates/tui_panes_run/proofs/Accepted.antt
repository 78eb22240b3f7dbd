-- What is known of an input that passes its tests.
use Rattle.std.proofs.Common.{◌≡◌, ℕ, zero, suc, ◌+◌, ◌<◌, ◌≤◌, max, List, [], ◌∷◌, length, Option, Some, None, Result, Ok, Err, All}
use Rattle.std.proofs.Common.{refl, subst, arith}
use Rattle.std.specs.Prelude.{codes, option_and_then}
use Rattle.std.specs.List.{AllByRecursion}
use Rattle.std.proofs.lemmas.Bool.Decides.{nat_tests}
use Rattle.std.proofs.lemmas.List.{length-append}
use Rattle.std.proofs.lemmas.List.Elements.{All-from_recursion}
use Rattle.serde_json.specs.Data.{Data, Items, no_items, item}
use Rattle.serde_json.specs.Find.{get}
use Rattle.tui_cells.specs.declared.rect.Rect.{Rect}
use Rattle.tui_json.specs.Constraint.{constraint_of}
use Rattle.tui_json.specs.Members.{elements_within}
use Rattle.tui_json.specs.Number.{below, u64_of}
use Rattle.tui_json.specs.Refusals.{◌>>=◌, numbered, or_reject}
use Rattle.tui_layout.specs.Columns.{columns_of}
use Rattle.tui_layout.specs.declared.constraint.Constraint.{Constraint}
use Rattle.tui_layout.specs.declared.direction.Direction.{Direction}
use Rattle.tui_layout.specs.declared.flex.Flex.{Flex}
use Rattle.tui_layout.specs.declared.segment.Segment.{Segment}
use Rattle.tui_layout.proofs.Placing.{length-made}
use Rattle.tui_scene.specs.Item.{ItemData}
use Rattle.tui_panes_lib.specs.Levels.{levels, parts_levels}
use Rattle.tui_panes_lib.specs.Place.{PaneData, PartsData, leaf, split, no_parts, part, part_of, place_in, place_parts, side_of, sizes_of}
use Rattle.tui_panes_run.specs.Changes.{ChangeData, bad_change, change_in, change_key, changes_in, each_change, in_change, leaf_number}
use Rattle.tui_panes_run.specs.Counts.{CountsData, no_panes, with_leaf, with_split}
use Rattle.tui_panes_run.specs.Input.{InputData, input_of, most_below, size_in}
use Rattle.tui_json.specs.Objects.{object_of}
use Rattle.tui_panes_run.specs.Refusals.{bad_pane}
use Rattle.tui_panes_run.specs.Tree.{JsonCommand, by_parts, leaf_in, lone_in, optional, pane_in, part_in, parts_in, required, shape_in, split_in, values_in}
use Rattle.tui_panes_run.specs.Widgets.{widget_in}
use Rattle.tui_panes_run.proofs.Trees.{no_values}
use Rattle.tui_panes_run.specs.declared.change_field.ChangeField.TheVariants as changing
use Rattle.tui_panes_run.specs.declared.field.PaneField.TheVariants as fields
use Rattle.tui_cells.specs.declared.size.Size.{Size}
use Rattle.tui_panes_run.specs.declared.refusal.PanesRefusal.{PanesRefusal}

-- if two tests after one another pass, each of them does
pub record Passed {A B R : Type 0} (r : Result A R) (f : A → Result B R) (y : B) : Type 0 where
  pub value : A
  pub first : r ≡ Ok value
  pub next : f value ≡ Ok y

passed : {A B R : Type 0} (r : Result A R) (f : A → Result B R) (y : B) → (r >>= f) ≡ Ok y → Passed r f y
passed (Ok x) f y e = record { value = x; first = refl; next = e }
passed (Err x) f y e = absurd cc

abbrev good : {A : Type 0} → A → Result A PanesRefusal
good x = Ok x

same_ok : {A : Type 0} (x y : A) → good x ≡ good y → x ≡ y
same_ok x y e = cc

-- a pane and the counts after it: it has few levels, and as many leaves are placed as were counted
pub record IsRead (most : ℕ) (at : CountsData) (pane : PaneData) (next : CountsData) : Type 0 where
  pub levels_are : levels pane ≤ most
  pub leaves_are : (area : Rect) → next.leaves ≡ at.leaves + length (place_in area pane)

-- the same for parts, on as many columns as there are parts
pub record AreRead (most : ℕ) (at : CountsData) (parts : PartsData) (next : CountsData) : Type 0 where
  pub levels_are : parts_levels parts ≤ most
  pub leaves_are : (direction : Direction) (area : Rect) (columns : List Segment) → length columns ≡ length (sizes_of parts) →
      next.leaves ≡ at.leaves + length (place_parts direction area columns parts)

abbrev ReadsWithin : ℕ → JsonCommand PaneData → Type 0
ReadsWithin most pane_of = (at : CountsData) (d : Data) (r : PaneData × CountsData) → pane_of at d ≡ Ok r → IsRead most at r.0 r.1

no_more : (most : ℕ) (at : CountsData) → AreRead most at no_parts at
unfolding parts_levels place_parts
no_more most at = record { levels_are = omega arith; leaves_are = λ direction area columns long. omega arith }

one_more : (most : ℕ) (at mid next : CountsData) (size : Constraint) (pane : PaneData) (parts : PartsData) → IsRead most at pane mid → AreRead most mid parts next →
    AreRead most at (part size pane parts) next
unfolding parts_levels place_parts
one_more most at mid next size pane parts one rest = record {
  levels_are = most_of (levels pane) (parts_levels parts) most one.levels_are rest.levels_are;
  leaves_are = λ direction area columns long. by_columns direction area columns long;
}
  where
    most_of : (a b n : ℕ) → a ≤ n → b ≤ n → max a b ≤ n
    most_of a b n h k = grind arith

    by_columns : (direction : Direction) (area : Rect) (columns : List Segment) → length columns ≡ suc (length (sizes_of parts)) →
        next.leaves ≡ at.leaves + length (place_parts direction area columns (part size pane parts))
    by_columns direction area [] long = absurd (omega (arith, long))
    by_columns direction area (column ∷ columns) long =
        let here = one.leaves_are (part_of direction area column) in
        let there = rest.leaves_are direction area columns (omega (arith, long)) in
        let both = length-append (place_in (part_of direction area column) pane) (place_parts direction area columns parts) in
        omega (arith, here, there, both)

pub parts_read : (most : ℕ) (pane_of : JsonCommand PaneData) → ReadsWithin most pane_of → (number : ℕ) (at : CountsData) (ds : Items)
    (r : PartsData × CountsData) → parts_in pane_of number at ds ≡ Ok r → AreRead most at r.0 r.1
unfolding parts_in part_in
parts_read most pane_of reads number at no_items r e =
    subst (λ (r : PartsData × CountsData). AreRead most at r.0 r.1) (same_ok (no_parts, at) r e) (no_more most at)
parts_read most pane_of reads number at (item d ds) r e =
    let one = passed (part_in pane_of number at d) _ r e in
    let rest = passed (parts_in pane_of number one.value.1 ds) _ r one.next in
    let size = passed (required constraint_of (Some number) fields.Size d) _ one.value one.first in
    let value = passed (or_reject (bad_pane (Some at.panes) fields.Item) (get (codes "pane") d)) _ one.value size.next in
    let pane = passed (pane_of at value.value) _ one.value value.next in
    let is : ((size.value, pane.value.0), pane.value.1) ≡ one.value = same_ok _ _ pane.next in
    let here = subst (λ (p : (Constraint × PaneData) × CountsData). IsRead most at p.0.1 p.1) is (reads at value.value pane.value pane.first) in
    let there = parts_read most pane_of reads number one.value.1 ds rest.value rest.first in
    subst (λ (r : PartsData × CountsData). AreRead most at r.0 r.1) (same_ok _ _ rest.next)
    (one_more most at one.value.1 rest.value.1 one.value.0.0 one.value.0.1 rest.value.0 here there)

no_both : {A : Type 0} (r : Result A PanesRefusal) (e : PanesRefusal) (x : A) → r ≡ Err e → r ≡ Ok x → ⊥
no_both (Ok y) e x h k = absurd cc
no_both (Err y) e x h k = absurd cc

-- a split that was read has a level below it
some_room : (room : ℕ) (at : CountsData) (d : Data) (values : Items) → values_in room at d ≡ Ok values → 0 < room
some_room zero at d values e = let none = no_values at d in absurd (no_both (values_in 0 at d) none.0 values none.1 e)
some_room (suc room) at d values e = omega arith

columns_long : (size spacing : ℕ) (cs : List Constraint) (flex : Flex) → length (columns_of size spacing cs flex) ≡ length cs
unfolding columns_of
columns_long size spacing cs flex = length-made _ cs

split_is_read : (room : ℕ) (at next : CountsData) (direction : Direction) (spacing : ℕ) (flex : Flex) (parts : PartsData) → AreRead room (with_split at) parts next →
    IsRead (suc room) at (split direction spacing flex parts) next
unfolding levels place_in
split_is_read room at next direction spacing flex parts read = record {
  levels_are = omega (arith, read.levels_are);
  leaves_are = λ area. read.leaves_are direction area (columns_of (side_of direction area) spacing (sizes_of parts) flex)
      (columns_long (side_of direction area) spacing (sizes_of parts) flex);
}

split_read : (room : ℕ) (pane_of : JsonCommand PaneData) → (0 < room → ReadsWithin room pane_of) → (at : CountsData) (d : Data) (r : PaneData × CountsData) →
    split_in pane_of room at d ≡ Ok r → IsRead (suc room) at r.0 r.1
unfolding split_in
split_read room pane_of reads at d r e =
    let shape = passed (shape_in at.panes d) _ r e in
    let values = passed (values_in room at d) _ r shape.next in
    let parts = passed (parts_in pane_of at.panes (with_split at) values.value) _ r values.next in
    let read = parts_read room pane_of (reads (some_room room at d values.value values.first)) at.panes (with_split at) values.value parts.value parts.first in
    let s = shape.value in
    subst (λ (r : PaneData × CountsData). IsRead (suc room) at r.0 r.1) (same_ok _ _ parts.next)
    (split_is_read room at parts.value.1 s.direction s.spacing s.flex parts.value.0 read)

lone_is_read : (room : ℕ) (at : CountsData) (widget : ItemData) → IsRead (suc room) at (leaf widget) (with_leaf at)
unfolding levels place_in
lone_is_read room at widget = record { levels_are = omega arith; leaves_are = λ area. refl }

lone_read : (room : ℕ) (at : CountsData) (d : Data) (r : PaneData × CountsData) → lone_in at d ≡ Ok r → IsRead (suc room) at r.0 r.1
unfolding lone_in
lone_read room at d r e =
    let widget = passed (leaf_in at d) _ r e in
    subst (λ (r : PaneData × CountsData). IsRead (suc room) at r.0 r.1) (same_ok _ _ widget.next) (lone_is_read room at widget.value)

by_member : (room : ℕ) (pane_of : JsonCommand PaneData) → (0 < room → ReadsWithin room pane_of) → (at : CountsData) (d : Data) (parts : Option Data)
    (r : PaneData × CountsData) → by_parts pane_of room at d parts ≡ Ok r → IsRead (suc room) at r.0 r.1
by_member room pane_of reads at d (Some parts) r e = split_read room pane_of reads at d r e
by_member room pane_of reads at d None r e = lone_read room at d r e

-- a pane with this many levels below it
pub pane_read : (room : ℕ) → ReadsWithin (suc room) (pane_in room)
unfolding pane_in
pane_read zero at d r e = by_member zero lone_in (λ some. absurd (omega (arith, some))) at d (get (codes "parts") d) r e
pane_read (suc room) at d r e = by_member (suc room) (pane_in room) (λ some. pane_read room) at d (get (codes "parts") d) r e

-- a number that passes `below` is less
below_is : (leaves n m : ℕ) → below leaves n ≡ Some m → m < leaves
below_is leaves n m e = grind (arith, nat_tests, e)

number_is : (leaves m : ℕ) (read : Option ℕ) → option_and_then (below leaves) read ≡ Some m → m < leaves
number_is leaves m None e = absurd cc
number_is leaves m (Some n) e = below_is leaves n m e

member_is : (leaves m : ℕ) (found : Option Data) → or_reject bad_change (option_and_then (leaf_number leaves) found) ≡ Ok m → m < leaves
member_is leaves m None e = absurd cc
member_is leaves m (Some d) e = by_number (leaf_number leaves d) refl e
  where
    by_number : (o : Option ℕ) → leaf_number leaves d ≡ o → or_reject bad_change o ≡ Ok m → m < leaves
    by_number None is h = absurd cc
    by_number (Some n) is h = let same : n ≡ m = same_ok n m h in subst (λ (k : ℕ). k < leaves) same (number_is leaves n (u64_of d) is)

abbrev IsBelow : ℕ → ChangeData → Type 0
IsBelow leaves c = c.leaf < leaves

change_read : (leaves i : ℕ) (d : Data) (c : ChangeData) → change_in leaves i d ≡ Ok c → IsBelow leaves c
unfolding change_in
change_read leaves i d c e =
    let place = passed (in_change (leaf_number leaves) changing.Leaf d) _ c e in
    let value = passed (in_change object_of changing.Item d) _ c place.next in
    let widget = passed (widget_in (leaves + i) value.value) _ c value.next in
    subst (IsBelow leaves) (same_ok _ _ widget.next) (member_is leaves place.value (get (change_key changing.Leaf) d) place.first)

each_read : (leaves i : ℕ) (ds : Items) (cs : List ChangeData) → numbered (change_in leaves) i ds ≡ Ok cs → AllByRecursion (IsBelow leaves) cs
unfolding numbered
each_read leaves i no_items cs e = subst (AllByRecursion (IsBelow leaves)) (same_ok [] cs e) tt
each_read leaves i (item d ds) cs e =
    let one = passed (change_in leaves i d) _ cs e in
    let rest = passed (numbered (change_in leaves) (i + 1) ds) _ cs one.next in
    subst (AllByRecursion (IsBelow leaves)) (same_ok (one.value ∷ rest.value) cs rest.next)
    (change_read leaves i d one.value one.first, each_read leaves (i + 1) ds rest.value rest.first)

found_read : (leaves : ℕ) (found : Option Items) (cs : List ChangeData) → each_change leaves found ≡ Ok cs → AllByRecursion (IsBelow leaves) cs
found_read leaves None cs e = subst (AllByRecursion (IsBelow leaves)) (same_ok [] cs e) tt
found_read leaves (Some ds) cs e = each_read leaves 0 ds cs e

changes_read : (leaves : ℕ) (d : Data) (cs : List ChangeData) → changes_in leaves d ≡ Ok cs → All (IsBelow leaves) cs
unfolding changes_in
changes_read leaves d cs e =
    let found = passed (optional (elements_within 0 256) None fields.Changes d) _ cs e in
    All-from_recursion (IsBelow leaves) cs (found_read leaves found.value cs found.next)

-- a tree of few levels, and changes of leaves that it has
pub record IsAccepted (input : InputData) : Type 0 where
  pub levels_are : levels input.root ≤ 32
  pub leaves_are : (area : Rect) → All (λ c. c.leaf < length (place_in area input.root)) input.changes

both_read : (size : Size) (root : PaneData) (next : CountsData) (changes : List ChangeData) → IsRead 32 no_panes root next → All (IsBelow next.leaves) changes →
    IsAccepted (record { size = size; root = root; changes = changes })
both_read size root next changes read below = record {
  levels_are = read.levels_are;
  leaves_are = λ area.
      let as_many : next.leaves ≡ length (place_in area root) = omega (arith, read.leaves_are area) in
      subst (λ (n : ℕ). All (λ (c : ChangeData). c.leaf < n) changes) as_many below;
}

pub accepted : (d : Data) (input : InputData) → input_of d ≡ Ok input → IsAccepted input
unfolding input_of
accepted d input e =
    let size = passed (size_in d) _ input e in
    let value = passed (or_reject (bad_pane None fields.Root) (get (codes "root") d)) _ input size.next in
    let root = passed (pane_in most_below no_panes value.value) _ input value.next in
    let changes = passed (changes_in root.value.1.leaves d) _ input root.next in
    let read = pane_read most_below no_panes value.value root.value root.first in
    let below = changes_read root.value.1.leaves d changes.value changes.first in
    subst IsAccepted (same_ok _ _ changes.next) (both_read size.value root.value.0 root.value.1 changes.value read below)
