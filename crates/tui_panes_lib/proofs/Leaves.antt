-- Leaves drawn in an order are drawn like the scene that has them in that order.
use Rattle.std.proofs.Common.{◌≡◌, ℕ, ◌+◌, ◌<◌, ◌≤◌, List, [], ◌∷◌, length, get_or, set, map, drop, All, refl, sym, ap, ◌∙◌, subst, arith, Some, Result, Ok, Err, OnOk}
use Rattle.std.proofs.lemmas.Option.{slice_get-get_or}
use Rattle.std.proofs.lemmas.List.{get_or-map, get_or-set_same, length-map, map-id, set-get_or}
use Rattle.std.proofs.lemmas.List.Elements.{All-get_or, All-map, All-weaker, recursion_from_All}
use Rattle.std.specs.List.{AllByRecursion}
use Rattle.tui_cells.specs.declared.rect.Rect.{Rect}
use Rattle.tui_cells.specs.Buffer.{IsFilled, Screen}
use Rattle.tui_cells.specs.Cell.{blank}
use Rattle.tui_cells.specs.Layers.{KeptOutside, Painted}
use Rattle.tui_scene.specs.Draw.{Stopped}
use Rattle.tui_scene.specs.Item.{IsAllocationFreePlaced, PlacedData, placed_after, placed_footprint, placed_layers}
use Rattle.tui_scene.specs.Laws.{Draws}
use Rattle.tui_scene.specs.Redraw.{IsFresh, IsOrder}
use Rattle.tui_scene.specs.Scene.{DrawRun, DrawStep, no_widget, placed_at, scene_layers}
use Rattle.tui_scene.proofs.Freshness.{drawn_is_fresh, order_is_irrelevant}
use Rattle.tui_scene.proofs.Running.{Drawn, all_moved, drawn_more, allocation_free_at, run_more, stopped}
use Rattle.tui_panes_lib.specs.Draw.{HaveNoShadow, StoppedAt, in_order}
use Rattle.tui_panes_lib.specs.Panes.{rects_of}
use Rattle.tui_panes_lib.proofs.AreDisjointItems.{areas_set, are_disjoint_items}
use Rattle.tui_panes_lib.specs.Apart.{AreDisjointWithin}
use Rattle.tui_panes_lib.proofs.Orders.{all_at, set_once}

abbrev itself : PlacedData → PlacedData
itself p = p

-- one more leaf, which is at index k of the order
pub record OneMore (order : List ℕ) (old now : List PlacedData) (k leaf : ℕ) : Type 0 where
  pub within : k < length order
  pub here : leaf ≡ get_or order k 0
  pub is : IsOrder (length old) order
  pub same_length : length now ≡ length old

-- the leaf is the element at index k of the leaves in this order
leaf_is : (order : List ℕ) (old now : List PlacedData) (k leaf : ℕ) → OneMore order old now k leaf → placed_at now leaf ≡ get_or (in_order order now) k (placed_at now leaf)
leaf_is order old now k leaf m =
    ap (placed_at now) m.here ∙ sym (get_or-map (placed_at now) order k 0 (placed_at now leaf) m.within)

-- setting the leaf sets that element
set_there : (order : List ℕ) (old now : List PlacedData) (k leaf : ℕ) (q : PlacedData) → OneMore order old now k leaf →
    in_order order (set now leaf q) ≡ set (in_order order now) k q
set_there order old now k leaf q m =
    ap (λ i. in_order order (set now i q)) m.here
    ∙ set_once now order k q no_widget (subst (λ n. IsOrder n order) (sym m.same_length) m.is) m.within

same : (ps : List PlacedData) → map itself ps ≡ ps
same ps = map-id ps

order_long : (order : List ℕ) (old : List PlacedData) (k : ℕ) → k < length order → k < length (in_order order old)
order_long order old k lt = omega (arith, length-map order (placed_at old))

pub leaf_drawn : (order : List ℕ) (old now next : List PlacedData) (before mid after : Screen) (k leaf : ℕ) → OneMore order old now k leaf →
    Drawn (in_order order old) (in_order order now) before mid k → Painted (placed_layers mid.area (placed_at now leaf)) mid after →
    next ≡ set now leaf (placed_after mid.area (placed_at now leaf)) → Drawn (in_order order old) (in_order order next) before after (k + 1)
leaf_drawn order old now next before mid after k leaf m drawn painted moved =
    let q = placed_after mid.area (placed_at now leaf) in
    let new : map itself (set (in_order order now) k q) ≡ in_order order next =
    same (set (in_order order now) k q) ∙ sym (set_there order old now k leaf q m) ∙ ap (in_order order) (sym moved) in
    subst (λ ps. Drawn (in_order order old) ps before after (k + 1)) new
    (drawn_more itself (in_order order now) (in_order order old) before mid after k (placed_at now leaf) (placed_at now leaf) q (order_long order old k m.within)
    (subst (λ ps. Drawn (in_order order old) ps before mid k) (sym (same (in_order order now))) drawn) (leaf_is order old now k leaf m) painted refl)

pub leaf_run : (order : List ℕ) (old now next : List PlacedData) (before mid after last : Screen) (k leaf : ℕ) → OneMore order old now k leaf →
    Drawn (in_order order old) (in_order order now) before mid k → DrawStep (placed_at now leaf) (placed_at next leaf) mid after →
    next ≡ set now leaf (placed_after mid.area (placed_at now leaf)) →
    DrawRun (drop (k + 1) (in_order order old)) (map (placed_after before.area) (drop (k + 1) (in_order order old))) after last →
    DrawRun (drop k (in_order order old)) (map (placed_after before.area) (drop k (in_order order old))) mid last
leaf_run order old now next before mid after last k leaf m drawn step moved rest =
    let q = placed_after mid.area (placed_at now leaf) in
    let below : leaf < length now = omega (arith, m.here, m.same_length, All-get_or (λ i. i < length old) order k 0 m.within m.is.below) in
    let there : placed_at next leaf ≡ q = ap (λ (ps : List PlacedData). placed_at ps leaf) moved ∙ get_or-set_same now leaf q no_widget below in
    run_more itself (in_order order now) (in_order order old) before mid after last k (placed_at now leaf) (placed_at now leaf) q
    (order_long order old k m.within) (subst (λ ps. Drawn (in_order order old) ps before mid k) (sym (same (in_order order now))) drawn)
    (leaf_is order old now k leaf m) (subst (λ (p : PlacedData). DrawStep (placed_at now leaf) p mid after) there step) refl rest

-- a leaf is out of memory
pub leaf_stopped : (order : List ℕ) (old now next : List PlacedData) (before mid after : Screen) (k leaf : ℕ) → OneMore order old now k leaf →
    Drawn (in_order order old) (in_order order now) before mid k → KeptOutside (placed_footprint mid.area (placed_at now leaf)) mid after →
    next ≡ now → StoppedAt order old next before after leaf
leaf_stopped order old now next before mid after k leaf m drawn kept unmoved =
    let x = placed_at now leaf in
    let at = leaf_is order old now k leaf m in
    let new : map itself (set (in_order order now) k x) ≡ in_order order next =
    same (set (in_order order now) k x) ∙ ap (set (in_order order now) k) at ∙ set-get_or (in_order order now) k x ∙ ap (in_order order) (sym unmoved) in
    record {
      place = k;
      here = slice_get-get_or order k 0 m.within ∙ ap Some (sym m.here);
      stopped = subst (λ ps. Stopped (in_order order old) ps before after k) new
          (stopped itself (in_order order now) (in_order order old) before mid after k x x x (order_long order old k m.within)
          (subst (λ ps. Drawn (in_order order old) ps before mid k) (sym (same (in_order order now))) drawn) at kept refl);
      same_length = ap length unmoved ∙ m.same_length;
    }

-- a leaf, if no leaf allocates
pub leaf_allocation_free : (order : List ℕ) (old now : List PlacedData) (before mid : Screen) (k leaf : ℕ) → OneMore order old now k leaf →
    Drawn (in_order order old) (in_order order now) before mid k → All (IsAllocationFreePlaced before.area) old → IsAllocationFreePlaced mid.area (placed_at now leaf)
leaf_allocation_free order old now before mid k leaf m drawn allocation_free =
    allocation_free_at itself (in_order order now) (in_order order old) before mid k (placed_at now leaf) (placed_at now leaf) (order_long order old k m.within)
    (subst (λ ps. Drawn (in_order order old) ps before mid k) (sym (same (in_order order now))) drawn) (leaf_is order old now k leaf m)
    (All-map (IsAllocationFreePlaced before.area) (placed_at old) order
    (All-weaker (λ i. i < length old) (λ i. IsAllocationFreePlaced before.area (placed_at old i))
    (λ i lt. All-get_or (IsAllocationFreePlaced before.area) old i no_widget lt allocation_free) order m.is.below))

-- all leaves are drawn
pub leaves_moved : (order : List ℕ) (old now : List PlacedData) (before mid : Screen) (k : ℕ) → IsOrder (length old) order → length order ≤ k →
    length now ≡ length old → Drawn (in_order order old) (in_order order now) before mid k → now ≡ map (placed_after before.area) old
leaves_moved order old now before mid k is le long drawn =
    all_at (placed_after before.area) old now order no_widget is long
    (drawn.states ∙ all_moved (placed_after before.area) (in_order order old) k (omega (arith, length-map order (placed_at old))))

-- the rectangles do not change
pub areas_stay : (now next : List PlacedData) (area : Rect) (leaf : ℕ) → next ≡ set now leaf (placed_after area (placed_at now leaf)) → rects_of next ≡ rects_of now
areas_stay now next area leaf moved = ap rects_of moved ∙ areas_set now leaf (placed_after area (placed_at now leaf)) refl

-- the leaves in an order, after all are drawn
in_order_after : (area : Rect) (old : List PlacedData) (order : List ℕ) → AllByRecursion (λ i. i < length old) order →
    in_order order (map (placed_after area) old) ≡ map (placed_after area) (in_order order old)
in_order_after area old [] below = refl
in_order_after area old (i ∷ order) below =
    ap (λ p. p ∷ in_order order (map (placed_after area) old)) (get_or-map (placed_after area) old i no_widget no_widget below.0)
    ∙ ap (λ ps. placed_after area (placed_at old i) ∷ ps) (in_order_after area old order below.1)

pub draws_in_order : {T E : Type 0} (result : Result T E) (order : List ℕ) (old new : List PlacedData) (before after : Screen) → IsOrder (length old) order →
    OnOk result (Painted (scene_layers before.area (in_order order old)) before after) → OnOk result (new ≡ map (placed_after before.area) old) →
    OnOk result (Draws (in_order order old) (in_order order new) before after)
draws_in_order (Ok x) order old new before after is painted moved = record {
  cells = painted;
  states = ap (in_order order) moved ∙ in_order_after before.area old order (recursion_from_All (λ i. i < length old) order is.below);
}
draws_in_order (Err e) order old new before after is painted moved = tt

pub draws_any : {T E : Type 0} (result : Result T E) (area : Rect) (order : List ℕ) (old new : List PlacedData) (before after : Screen) →
    IsOrder (length old) order → AreDisjointWithin area (rects_of old) → HaveNoShadow old →
    OnOk result (Painted (scene_layers before.area (in_order order old)) before after) → OnOk result (new ≡ map (placed_after before.area) old) →
    OnOk result (Draws old new before after)
draws_any (Ok x) area order old new before after is lie plain painted moved =
    record { cells = order_is_irrelevant old order before after (are_disjoint_items area old lie plain) is painted; states = moved }
draws_any (Err e) area order old new before after is lie plain painted moved = tt

pub draws_fresh : {T E : Type 0} (result : Result T E) (old new : List PlacedData) (before after : Screen) → IsFilled before.area blank before →
    OnOk result (Draws old new before after) → OnOk result (IsFresh new after)
draws_fresh (Ok x) old new before after filled draws = drawn_is_fresh old new before after filled draws
draws_fresh (Err e) old new before after filled draws = tt
