-- The rectangles of the leaves of a tree are inside its area, and no two share a position.
use Rattle.std.proofs.Common.{◌≡◌, ℕ, zero, suc, ◌+◌, ◌<◌, ◌≤◌, true, false, ◌&&◌, List, [], ◌∷◌, ◌++◌, length, get_or, map, arith, inl, inr}
use Rattle.std.specs.Prelude.{◌⊎◌, ⊤, AllPairs}
use Rattle.std.specs.List.{AllByRecursion}
use Rattle.std.proofs.lemmas.List.Elements.{All-from_recursion, All-get_or, All-map, recursion_from_All}
use Rattle.std.proofs.lemmas.Bool.Decides.{nat_tests}
use Rattle.tui_cells.specs.declared.rect.Rect.{Rect}
use Rattle.tui_cells.specs.Rect.{area_of, covers}
use Rattle.tui_layout.specs.Columns.{IsBefore, columns_of}
use Rattle.tui_layout.specs.declared.constraint.Constraint.{Constraint}
use Rattle.tui_layout.specs.declared.direction.Direction.{Direction}
use Rattle.tui_layout.specs.declared.direction.Direction.TheVariants.{Horizontal, Vertical}
use Rattle.tui_layout.specs.declared.flex.Flex.{Flex}
use Rattle.tui_layout.specs.declared.segment.Segment.{Segment}
use Rattle.tui_layout.proofs.Splitting.{columns_in_order}
use Rattle.tui_scene.specs.Item.{PlacedData}
use Rattle.tui_panes_lib.specs.Place.{PaneData, PartsData, leaf, split, no_parts, part, sizes_of, side_of, part_of, place_in, place_parts, leaves_in}
use Rattle.tui_panes_lib.specs.Laws.{PanesAreDisjoint}

-- a rectangle inside the edges of another one
record Lies (area r : Rect) : Type 0 where
  left : area.x ≤ r.x
  right : r.x + r.width ≤ area.x + area.width
  top : area.y ≤ r.y
  bottom : r.y + r.height ≤ area.y + area.height

-- one of them ends, in columns or in rows, before the other starts
abbrev Apart : Rect → Rect → Type 0
Apart a b = (a.x + a.width ≤ b.x) ⊎ (a.y + a.height ≤ b.y)

-- this holds for each pair
abbrev Apartness : List PlacedData → Type 0
Apartness [] = ⊤
Apartness (p ∷ ps) = AllByRecursion (λ (q : PlacedData). Apart p.area q.area) ps × Apartness ps

-- the rectangle starts at this place along a side, or after it
abbrev After : Direction → Rect → ℕ → Rect → Type 0
After Horizontal area from r = area.x + from ≤ r.x
After Vertical area from r = area.y + from ≤ r.y

-- columns one after the other, from a place on
abbrev Rising : ℕ → ℕ → List Segment → Type 0
Rising from size [] = ⊤
Rising from size (s ∷ columns) = (from ≤ s.start) × (s.start + s.width ≤ size) × Rising (s.start + s.width) size columns

rising_of : (spacing from size : ℕ) (columns : List Segment) → AllByRecursion (λ s. s.start + s.width ≤ size) columns → AllPairs (IsBefore spacing) columns
    → ((d : Segment) → 0 < length columns → from ≤ (get_or columns 0 d).start) → Rising from size columns
rising_of spacing from size [] inside order first = tt
rising_of spacing from size (s ∷ columns) inside order first = (
  first s (omega arith),
  inside.0,
  rising_of spacing (s.start + s.width) size columns inside.1 (λ i j d lt h. order (suc i) (suc j) d (omega arith) (omega arith))
      (λ d h. (order 0 1 d (omega arith) (omega arith)).apart),
)

columns_rise : (size spacing : ℕ) (cs : List Constraint) (flex : Flex) → Rising 0 size (columns_of size spacing cs flex)
columns_rise size spacing cs flex =
    let k = columns_in_order size spacing cs flex in
    rising_of spacing 0 size (columns_of size spacing cs flex) (recursion_from_All (λ (s : Segment). s.start + s.width ≤ size) (columns_of size spacing cs flex) k.inside) k.order (λ d h. omega arith)

all_append : {A : Type 0} (P : A → Type 0) (xs ys : List A) → AllByRecursion P xs → AllByRecursion P ys → AllByRecursion P (xs ++ ys)
all_append P [] ys a b = b
all_append P (x ∷ xs) ys a b = (a.0, all_append P xs ys a.1 b)

all_weaker : {A : Type 0} (P Q : A → Type 0) (xs : List A) → ((x : A) → P x → Q x) → AllByRecursion P xs → AllByRecursion Q xs
all_weaker P Q [] f a = tt
all_weaker P Q (x ∷ xs) f a = (f x a.0, all_weaker P Q xs f a.1)

-- the leaves of a part, and those of later parts
apart_append : (ps qs : List PlacedData) → Apartness ps → Apartness qs → AllByRecursion (λ (p : PlacedData). AllByRecursion (λ (q : PlacedData). Apart p.area q.area) qs) ps → Apartness (ps ++ qs)
apart_append [] qs a b c = b
apart_append (p ∷ ps) qs a b c = (all_append (λ (q : PlacedData). Apart p.area q.area) ps qs a.0 c.0, apart_append ps qs a.1 b c.1)

-- what is known of the leaves of a pane, and of the leaves of parts from a place on
record Inside (area : Rect) (ps : List PlacedData) : Type 0 where
  lie : AllByRecursion (λ (p : PlacedData). Lies area p.area) ps
  apart : Apartness ps

record InsideFrom (direction : Direction) (area : Rect) (from : ℕ) (ps : List PlacedData) : Type 0 where
  inside : Inside area ps
  after : AllByRecursion (λ (p : PlacedData). After direction area from p.area) ps

-- the leaves of a part are inside its column
in_part : (direction : Direction) (area : Rect) (s : Segment) (r : Rect) → s.start + s.width ≤ side_of direction area → Lies (part_of direction area s) r → Lies area r
in_part Horizontal area s r h l = let a = l.left in let b = l.right in record { left = omega arith; right = omega arith; top = l.top; bottom = l.bottom }
in_part Vertical area s r h l = let a = l.top in let b = l.bottom in record { left = l.left; right = l.right; top = omega arith; bottom = omega arith }

part_after : (direction : Direction) (area : Rect) (s : Segment) (from : ℕ) (r : Rect) → from ≤ s.start → Lies (part_of direction area s) r → After direction area from r
part_after Horizontal area s from r h l = let a = l.left in omega arith
part_after Vertical area s from r h l = let a = l.top in omega arith

after_more : (direction : Direction) (area : Rect) (from more : ℕ) (r : Rect) → from ≤ more → After direction area more r → After direction area from r
after_more Horizontal area from more r h b = omega arith
after_more Vertical area from more r h b = omega arith

parts_apart : (direction : Direction) (area : Rect) (s : Segment) (r q : Rect) → Lies (part_of direction area s) r → After direction area (s.start + s.width) q → Apart r q
parts_apart Horizontal area s r q l b = let a = l.right in inl (omega arith)
parts_apart Vertical area s r q l b = let a = l.bottom in inr (omega arith)

part_more : (direction : Direction) (area : Rect) (from : ℕ) (s : Segment) (ps qs : List PlacedData) → from ≤ s.start → s.start + s.width ≤ side_of direction area
    → Inside (part_of direction area s) ps → InsideFrom direction area (s.start + s.width) qs → InsideFrom direction area from (ps ++ qs)
part_more direction area from s ps qs h k here later =
    let there = part_of direction area s in
    record {
      inside = record {
        lie = all_append (λ (p : PlacedData). Lies area p.area) ps qs
            (all_weaker (λ (p : PlacedData). Lies there p.area) (λ (p : PlacedData). Lies area p.area) ps (λ p l. in_part direction area s p.area k l) here.lie) later.inside.lie;
        apart = apart_append ps qs here.apart later.inside.apart
            (all_weaker (λ (p : PlacedData). Lies there p.area) (λ (p : PlacedData). AllByRecursion (λ (q : PlacedData). Apart p.area q.area) qs) ps
            (λ p l. all_weaker (λ (q : PlacedData). After direction area (s.start + s.width) q.area) (λ (q : PlacedData). Apart p.area q.area) qs (λ q b. parts_apart direction area s p.area q.area l b) later.after)
            here.lie);
      };
      after = all_append (λ (p : PlacedData). After direction area from p.area) ps qs
          (all_weaker (λ (p : PlacedData). Lies there p.area) (λ (p : PlacedData). After direction area from p.area) ps (λ p l. part_after direction area s from p.area h l) here.lie)
          (all_weaker (λ (q : PlacedData). After direction area (s.start + s.width) q.area) (λ (q : PlacedData). After direction area from q.area) qs (λ q b. after_more direction area from (s.start + s.width) q.area (omega arith) b) later.after);
    }

mutual
  unfolding place_in place_parts

  placed_inside : (area : Rect) (pane : PaneData) → Inside area (place_in area pane)
  placed_inside area (leaf item) = record { lie = (record { left = omega arith; right = omega arith; top = omega arith; bottom = omega arith }, tt); apart = (tt, tt) }
  placed_inside area (split direction spacing flex parts) =
      (parts_inside direction area 0 (columns_of (side_of direction area) spacing (sizes_of parts) flex) parts (columns_rise (side_of direction area) spacing (sizes_of parts) flex)).inside

  parts_inside : (direction : Direction) (area : Rect) (from : ℕ) (columns : List Segment) (parts : PartsData) → Rising from (side_of direction area) columns
      → InsideFrom direction area from (place_parts direction area columns parts)
  parts_inside direction area from columns no_parts r = record { inside = record { lie = tt; apart = tt }; after = tt }
  parts_inside direction area from [] (part size pane parts) r = record { inside = record { lie = tt; apart = tt }; after = tt }
  parts_inside direction area from (s ∷ columns) (part size pane parts) r =
      part_more direction area from s (place_in (part_of direction area s) pane) (place_parts direction area columns parts) r.0 r.1
      (placed_inside (part_of direction area s) pane) (parts_inside direction area (s.start + s.width) columns parts r.2)

-- the same, stated for positions

lies_cut : (area r : Rect) → Lies (area_of area.x area.y area.width area.height) r → Lies area r
lies_cut area r l = let a = l.right in let b = l.bottom in record { left = l.left; right = omega arith; top = l.top; bottom = omega arith }

lies_covers : (area r : Rect) (x y : ℕ) → Lies area r → covers r x y ≡ true → covers area x y ≡ true
lies_covers area r x y l c = let a = l.left in let b = l.right in let d = l.top in let e = l.bottom in grind (arith, nat_tests)

apart_covers : (a b : Rect) (x y : ℕ) → Apart a b → (covers a x y && covers b x y) ≡ false
apart_covers a b x y h = elim h [ inl columns ↦ grind (arith, nat_tests) | inr rows ↦ grind (arith, nat_tests) ]

apart_pairs : (ps : List PlacedData) → Apartness ps → AllPairs (λ a b. (x y : ℕ) → (covers a x y && covers b x y) ≡ false) (map (λ (p : PlacedData). p.area) ps)
apart_pairs [] a i j d lt h = absurd (omega arith)
apart_pairs (p ∷ ps) a i zero d lt h = absurd (omega arith)
apart_pairs (p ∷ ps) a zero (suc j) d lt h =
    let n : j < length (map (λ (q : PlacedData). q.area) ps) = omega arith in
    All-get_or (λ r. (x y : ℕ) → (covers p.area x y && covers r x y) ≡ false) (map (λ (q : PlacedData). q.area) ps) j d n
    (All-map (λ r. (x y : ℕ) → (covers p.area x y && covers r x y) ≡ false) (λ (q : PlacedData). q.area) ps
    (All-from_recursion (λ (q : PlacedData). (x y : ℕ) → (covers p.area x y && covers q.area x y) ≡ false) ps
    (all_weaker (λ (q : PlacedData). Apart p.area q.area) (λ (q : PlacedData). (x y : ℕ) → (covers p.area x y && covers q.area x y) ≡ false) ps (λ q b x y. apart_covers p.area q.area x y b) a.0)))
apart_pairs (p ∷ ps) a (suc i) (suc j) d lt h = apart_pairs ps a.1 i j d (omega arith) (omega arith)

pub are_disjoint_within : PanesAreDisjoint
are_disjoint_within area pane =
    let whole = area_of area.x area.y area.width area.height in
    let inside = placed_inside whole pane in
    record {
      inside = All-map (λ r. (x y : ℕ) → covers r x y ≡ true → covers area x y ≡ true) (λ (p : PlacedData). p.area) (leaves_in area pane)
          (All-from_recursion (λ (p : PlacedData). (x y : ℕ) → covers p.area x y ≡ true → covers area x y ≡ true) (leaves_in area pane)
          (all_weaker (λ (p : PlacedData). Lies whole p.area) (λ (p : PlacedData). (x y : ℕ) → covers p.area x y ≡ true → covers area x y ≡ true) (leaves_in area pane)
          (λ p l x y c. lies_covers area p.area x y (lies_cut area p.area l) c) inside.lie));
      apart = apart_pairs (leaves_in area pane) inside.apart;
    }
