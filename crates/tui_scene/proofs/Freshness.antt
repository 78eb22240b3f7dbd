-- Widgets without shadows whose areas share no position.
use Rattle.std.proofs.Common.{◌≡◌, ℕ, zero, suc, ◌<◌, Bool, true, false, ◌&&◌, List, [], ◌∷◌, ◌++◌, length}
use Rattle.std.proofs.Common.{get_or, set, map, refl, sym, ap, ◌∙◌, subst, arith, inl, inr, Option, None, Some, option_map}
use Rattle.std.specs.Prelude.{IfSome, if◌then◌else◌}
use Rattle.std.proofs.lemmas.List.{get_or-map, get_or-set_other, get_or-set_same, get_or_default, length-map, length-set, map-set}
use Rattle.std.proofs.lemmas.List.Folds.{flat_map-map}
use Rattle.std.proofs.lemmas.List.Elements.{All-map, All-set, All-weaker}
use Rattle.std.proofs.lemmas.Bool.{cases_eq, cond-true, cond-false}
use Rattle.tui_cells.specs.declared.rect.Rect.{Rect}
use Rattle.tui_cells.specs.Rect.{covers, intersection_of}
use Rattle.tui_cells.specs.Cell.{Look, blank, wipe}
use Rattle.tui_cells.specs.Buffer.{Screen, IsFilled, cell_at}
use Rattle.tui_cells.specs.Layers.{Painted, StayIn, layers_at, stroke}
use Rattle.tui_cells.proofs.Painting.{Painted-same}
use Rattle.tui_cells.proofs.Regions.{covers_both}
use Rattle.tui_frames.specs.Block.{BlockData}
use Rattle.tui_frames.specs.Footprint.{footprint_if, footprint_of}
use Rattle.tui_lists.proofs.ListShown.{redraw_keeps_strokes}
use Rattle.tui_table.proofs.StatefulDrawing.{redraw_is_idempotent}
use Rattle.tui_scene.specs.Item.{ItemData, PlacedData, item_drawing, placed_after, placed_layers, clear, fill, block, paragraph, tabs}
use Rattle.tui_scene.specs.Item.{gauge, line_gauge, bar_chart, sparkline, monthly, logo, stateless, list, table, scrollbar}
use Rattle.tui_scene.specs.Laws.{LayersRepeat}
use Rattle.tui_scene.specs.Redraw.{AreReplaced, DrawnIsFresh, IsFresh, IsOrder, IsReplaced}
use Rattle.tui_scene.specs.Redraw.{OrderIsIrrelevant, ReplacedIsFresh, AreDisjointItems, StaysFresh, replaced}
use Rattle.tui_scene.specs.Scene.{no_widget, placed_at, scene_layers}
use Rattle.tui_scene.specs.Shadow.{ClipIsFootprint, HasNoShadow}
use Rattle.tui_scene.proofs.Drawn.{filled_cell}
use Rattle.tui_scene.proofs.DisjointItems.{KeepApart, Stroked, all_layers, any_order, either, in_order, other_at}

-- a widget without a shadow changes only its clip

plain_if : (o : Option BlockData) (clip : Rect) (x y : ℕ) → IfSome o (λ (b : BlockData). b.shadow ≡ None) → footprint_if o clip x y ≡ covers clip x y
plain_if None clip x y e = refl
plain_if (Some b) clip x y e = ap (λ s. footprint_of s clip x y) e

plain : (item : ItemData) (clip : Rect) (x y : ℕ) → HasNoShadow item → (item_drawing item).footprint clip x y ≡ covers clip x y
plain (stateless clear) clip x y e = refl
plain (stateless (fill f)) clip x y e = refl
plain (stateless (block b)) clip x y e = ap (λ s. footprint_of s clip x y) e
plain (stateless (paragraph p)) clip x y e = plain_if p.block clip x y e
plain (stateless (tabs t)) clip x y e = plain_if t.block clip x y e
plain (stateless (gauge g)) clip x y e = plain_if g.block clip x y e
plain (stateless (line_gauge g)) clip x y e = plain_if g.block clip x y e
plain (stateless (bar_chart c)) clip x y e = plain_if c.block clip x y e
plain (stateless (sparkline s)) clip x y e = plain_if s.block clip x y e
plain (stateless (monthly dates m)) clip x y e = plain_if m.block clip x y e
plain (stateless (logo size)) clip x y e = refl
plain (list l s) clip x y e = plain_if l.block clip x y e
plain (table t s) clip x y e = plain_if t.block clip x y e
plain (scrollbar b s) clip x y e = refl

pub clip_is_footprint : ClipIsFootprint
clip_is_footprint area p none x y = plain p.item (intersection_of p.area area) x y none

item_repeats : (item : ItemData) (clip : Rect) → (item_drawing ((item_drawing item).after clip)).layers clip ≡ (item_drawing item).layers clip
item_repeats (stateless w) clip = refl
item_repeats (list l s) clip = redraw_keeps_strokes l s clip
item_repeats (table t s) clip = (redraw_is_idempotent t clip s).1
item_repeats (scrollbar b s) clip = refl

pub items_repeat : LayersRepeat
items_repeat area p = item_repeats p.item (intersection_of p.area area)

-- widgets as strokes that stay in their clips

abbrev stroked : Rect → PlacedData → Stroked
stroked area p = record { region = covers (intersection_of p.area area); layers = placed_layers area p }

stays_in : (area : Rect) (p : PlacedData) → HasNoShadow p.item → StayIn (covers (intersection_of p.area area)) (placed_layers area p)
stays_in area p e =
    let clip = intersection_of p.area area in
    record { cell = λ x y out c. ((item_drawing p.item).stays clip).cell x y (plain p.item clip x y e ∙ out) c }

both_false : (a b c : Bool) → (a && b) ≡ false → ((a && c) && (b && c)) ≡ false
both_false true true c h = absurd (cc)
both_false true false true h = refl
both_false true false false h = refl
both_false false b c h = refl

apart_clips : (area a b : Rect) (x y : ℕ) → (covers a x y && covers b x y)
    ≡ false → (covers (intersection_of a area) x y && covers (intersection_of b area) x y) ≡ false
apart_clips area a b x y h =
    ap (λ t. t && covers (intersection_of b area) x y) (covers_both a area x y)
    ∙ ap (λ t. (covers a x y && covers area x y) && t) (covers_both b area x y)
    ∙ both_false (covers a x y) (covers b x y) (covers area x y) h

are_disjoint_items : (area : Rect) (ps : List PlacedData) (d : PlacedData) → AreDisjointItems ps → KeepApart (map (stroked area) ps)
are_disjoint_items area ps d lie = record {
  stay = All-map (λ (s : Stroked). StayIn s.region s.layers) (stroked area) ps
      (All-weaker (λ (p : PlacedData). HasNoShadow p.item) (λ (p : PlacedData). StayIn (covers (intersection_of p.area area)) (placed_layers area p))
      (λ p e. stays_in area p e) ps lie.no_shadow);
  apart = λ i j e lt h x y.
      let n : j < length ps = omega (arith, length-map ps (stroked area)) in
      let m : i < length ps = omega arith in
      subst (λ (s : Stroked). (s.region x y && (get_or (map (stroked area) ps) j e).region x y) ≡ false) (sym (get_or-map (stroked area) ps i d e m))
      (subst (λ (s : Stroked). (covers (intersection_of (get_or ps i d).area area) x y && s.region x y)
      ≡ false) (sym (get_or-map (stroked area) ps j d e n))
      (apart_clips area (get_or ps i d).area (get_or ps j d).area x y (lie.apart i j d lt n x y)));
}

and_true : (a b : Bool) → b ≡ true → (a && b) ≡ a
and_true true b e = e
and_true false b e = refl

get_or_mapped : {A B : Type 0} (f : A → B) (xs : List A) (i : ℕ) (d : A) → get_or (map f xs) i (f d) ≡ f (get_or xs i d)
get_or_mapped f [] i d = refl
get_or_mapped f (x ∷ xs) zero d = refl
get_or_mapped f (x ∷ xs) (suc i) d = get_or_mapped f xs i d

all_is : (area : Rect) (ps : List PlacedData) → all_layers (map (stroked area) ps) ≡ scene_layers area ps
all_is area ps = flat_map-map (λ (s : Stroked). s.layers) (stroked area) ps

ordered_is : (area : Rect) (ps : List PlacedData) (order : List ℕ)
    → all_layers (in_order (map (stroked area) ps) (stroked area no_widget) order) ≡ scene_layers area (map (placed_at ps) order)
ordered_is area ps [] = refl
ordered_is area ps (i ∷ order) =
    ap (λ (s : Stroked). s.layers ++ all_layers (in_order (map (stroked area) ps) (stroked area no_widget) order))
    (get_or_mapped (stroked area) ps i no_widget)
    ∙ ap (λ ls. placed_layers area (placed_at ps i) ++ ls) (ordered_is area ps order)

pub order_is_irrelevant : OrderIsIrrelevant
order_is_irrelevant ps order a b lie is painted =
    let order_is : IsOrder (length (map (stroked a.area) ps)) order = subst (λ n. IsOrder n order) (sym (length-map ps (stroked a.area))) is in
    Painted-same
    (λ x y c. ap (λ ls. layers_at ls x y c) (sym (ordered_is a.area ps order))
    ∙ any_order (map (stroked a.area) ps) (stroked a.area no_widget) order (are_disjoint_items a.area ps no_widget lie) order_is x y c
    ∙ ap (λ ls. layers_at ls x y c) (all_is a.area ps))
    painted

-- widgets that are drawn again have the same strokes
pub scene_repeats : (area : Rect) (ps : List PlacedData) → scene_layers area (map (placed_after area) ps) ≡ scene_layers area ps
scene_repeats area [] = refl
scene_repeats area (p ∷ ps) =
    ap (λ ls. ls ++ scene_layers area (map (placed_after area) ps)) (items_repeat area p)
    ∙ ap (λ ls. placed_layers area p ++ ls) (scene_repeats area ps)

abbrev blank_at : Rect → ℕ → ℕ → Option Look
blank_at area x y = if covers area x y then Some blank else None

-- a fresh buffer, cell by cell
record FreshCells (ps : List PlacedData) (s : Screen) : Type 0 where
  cells : (x y : ℕ) → cell_at s x y ≡ option_map (layers_at (scene_layers s.area ps) x y) (blank_at s.area x y)

to_cells : (ps : List PlacedData) (s : Screen) → IsFresh ps s → FreshCells ps s
to_cells ps s fresh = record {
  cells = λ x y. fresh.strokes.cells x y
      ∙ (ap (λ (r : Rect). option_map (layers_at (scene_layers s.area ps) x y) (cell_at fresh.first x y)) (sym fresh.strokes.area)
      ∙ ap (option_map (layers_at (scene_layers s.area ps) x y)) (filled_cell s.area fresh.first fresh.blank_first x y));
}

of_cells : (ps : List PlacedData) (first s : Screen) → IsFilled s.area blank first → FreshCells ps s → IsFresh ps s
of_cells ps first s filled fresh = record {
  first = first;
  blank_first = filled;
  strokes = record {
    area = sym filled.area_is;
    cells = λ x y. fresh.cells x y ∙ ap (option_map (layers_at (scene_layers s.area ps) x y)) (sym (filled_cell s.area first filled x y));
  };
}

pub drawn_is_fresh : DrawnIsFresh
drawn_is_fresh old new a b filled drawn =
    let moved : scene_layers b.area new ≡ scene_layers a.area old =
    ap (λ (r : Rect). scene_layers r new) drawn.cells.area ∙ (ap (scene_layers a.area) drawn.states ∙ scene_repeats a.area old) in
    record {
      first = a;
      blank_first = subst (λ (r : Rect). IsFilled r blank a) (sym drawn.cells.area) filled;
      strokes = subst (λ ls. Painted ls a b) (sym moved) drawn.cells;
    }

-- one position of the buffer, if one widget is replaced
replaced_cell : (area : Rect) (ps : List PlacedData) (i : ℕ) (q d : PlacedData) (x y : ℕ) → i < length ps → AreDisjointItems ps → HasNoShadow q.item →
    q.area ≡ (get_or ps i d).area
    → covers area x y ≡ true
    → layers_at (placed_layers area q) x y (layers_at (stroke (covers q.area) wipe) x y (layers_at (scene_layers area ps) x y blank))
    ≡ layers_at (scene_layers area (set ps i (placed_after area q))) x y blank
replaced_cell area ps i q d x y lt lie plain_q same inside =
    let xs = map (stroked area) ps in
    let s = stroked area q in
    let n : i < length xs = omega (arith, length-map ps (stroked area)) in
    let old_area : (get_or xs i (stroked area d)).region
    ≡ covers (intersection_of (get_or ps i d).area area) = ap (λ (t : Stroked). t.region) (get_or_mapped (stroked area) ps i d) in
    let regions : (x y : ℕ) → s.region x y ≡ (get_or xs i (stroked area d)).region x y =
    λ x y. ap (λ (r : Rect). covers (intersection_of r area) x y) same ∙ sym (ap (λ (f : ℕ → ℕ → Bool). f x y) old_area) in
    let law = other_at xs i s (stroked area d) n (are_disjoint_items area ps d lie) (stays_in area q plain_q) regions x y blank in
    let again : stroked area (placed_after area q)
    ≡ s = ap (λ ls. let t : Stroked = record { region = covers (intersection_of q.area area); layers = ls } in t) (items_repeat area q) in
    let scene : scene_layers area (set ps i (placed_after area q)) ≡ all_layers (set xs i s) =
    sym (all_is area (set ps i (placed_after area q))) ∙ ap all_layers (map-set (stroked area) ps i (placed_after area q))
    ∙ ap (λ (t : Stroked). all_layers (set xs i t)) again in
    let clip : s.region x y ≡ covers q.area x y = covers_both q.area area x y ∙ and_true (covers q.area x y) (covers area x y) inside in
    let goal_is = ap (λ ls. layers_at ls x y blank) scene ∙ law in
    elim (either (covers q.area x y)) [
      | inl covered ↦
          ap (layers_at (placed_layers area q) x y) (cond-true _ _ _ covered)
          ∙ sym (goal_is ∙ cond-true _ _ _ (clip ∙ covered))
      | inr free ↦
          ap (layers_at (placed_layers area q) x y) (cond-false _ _ _ free)
          ∙ (stays_in area q plain_q).cell x y (clip ∙ free) (layers_at (scene_layers area ps) x y blank)
          ∙ sym (goal_is ∙ cond-false _ _ _ (clip ∙ free) ∙ ap (λ ls. layers_at ls x y blank) (all_is area ps))
    ]

cell_is : (area : Rect) (ps : List PlacedData) (i : ℕ) (q d : PlacedData) (x y : ℕ) → i < length ps → AreDisjointItems ps → HasNoShadow q.item →
    q.area ≡ (get_or ps i d).area
    → option_map (layers_at (placed_layers area q) x y)
    (option_map (layers_at (stroke (covers q.area) wipe) x y) (option_map (layers_at (scene_layers area ps) x y) (blank_at area x y)))
    ≡ option_map (layers_at (scene_layers area (set ps i (placed_after area q))) x y) (blank_at area x y)
cell_is area ps i q d x y lt lie plain_q same =
    elim (either (covers area x y)) [
      | inl inside ↦
          (let b : blank_at area x y ≡ Some blank = cond-true _ _ _ inside in
          rw b (ap Some (replaced_cell area ps i q d x y lt lie plain_q same inside)))
      | inr outside ↦ (let b : blank_at area x y ≡ None = cond-false _ _ _ outside in rw b refl)
    ]

replaced_cells : (ps : List PlacedData) (i : ℕ) (q : PlacedData) (a c : Screen) → AreDisjointItems ps → FreshCells ps a → IsReplaced ps i q a c →
    FreshCells (replaced ps i q a) c
replaced_cells ps i q a c lie fresh r = record {
  cells = λ x y.
      subst (λ (k : Rect). cell_at c x y ≡ option_map (layers_at (scene_layers k (replaced ps i q a)) x y) (blank_at k x y))
      (sym (r.strokes.area ∙ r.is_reset.area))
      (r.strokes.cells x y
      ∙ ap (option_map (layers_at (placed_layers a.area q) x y)) (r.is_reset.cells x y
      ∙ ap (option_map (layers_at (stroke (covers q.area) wipe) x y)) (fresh.cells x y))
      ∙ cell_is a.area ps i q no_widget x y r.within lie r.no_shadow r.same_area);
}

pub replaced_is_fresh : ReplacedIsFresh
replaced_is_fresh ps i q a c lie fresh r =
    of_cells (replaced ps i q a) fresh.first c (subst (λ (k : Rect). IsFilled k blank fresh.first) (sym (r.strokes.area
    ∙ r.is_reset.area)) fresh.blank_first)
    (replaced_cells ps i q a c lie (to_cells ps a fresh) r)

-- after any number of replacements

after_plain : (item : ItemData) (clip : Rect) → HasNoShadow item → HasNoShadow ((item_drawing item).after clip)
after_plain (stateless w) clip e = e
after_plain (list l s) clip e = e
after_plain (table t s) clip e = e
after_plain (scrollbar b s) clip e = e

pair_moved : (a b c d : Rect) (x y : ℕ) → a ≡ c → b ≡ d → (covers c x y && covers d x y) ≡ false → (covers a x y && covers b x y) ≡ false
pair_moved a b c d x y e f h = ap (λ (r : Rect). covers r x y && covers b x y) e ∙ ap (λ (r : Rect). covers c x y && covers r x y) f ∙ h

area_set : (ps : List PlacedData) (i j : ℕ) (q d : PlacedData) → i < length ps → q.area ≡ (get_or ps i d).area → (get_or (set ps i q) j d).area
    ≡ (get_or ps j d).area
area_set ps i j q d lt same =
    elim (cases_eq j i) [
      | inl here ↦
          ap (λ k. (get_or (set ps i q) k d).area) here ∙ ap (λ (p : PlacedData). p.area) (get_or-set_same ps i q d lt) ∙ same
          ∙ ap (λ k. (get_or ps k d).area) (sym here)
      | inr other ↦ ap (λ (p : PlacedData). p.area) (get_or-set_other ps i j q d other)
    ]

lie_set : (ps : List PlacedData) (i : ℕ) (q : PlacedData) → AreDisjointItems ps → i < length ps → ((d : PlacedData) → q.area ≡ (get_or ps i d).area) →
    HasNoShadow q.item → AreDisjointItems (set ps i q)
lie_set ps i q lie lt same plain_q = record {
  no_shadow = All-set (λ (p : PlacedData). HasNoShadow p.item) ps i q plain_q lie.no_shadow;
  apart = λ j k d less h x y.
      pair_moved _ _ _ _ x y (area_set ps i j q d lt (same d)) (area_set ps i k q d lt (same d))
      (lie.apart j k d less (omega (arith, length-set ps i q)) x y);
}

lie_after : (area : Rect) (ps : List PlacedData) → AreDisjointItems ps → AreDisjointItems (map (placed_after area) ps)
lie_after area ps lie = record {
  no_shadow = All-map (λ (p : PlacedData). HasNoShadow p.item) (placed_after area) ps
      (All-weaker (λ (p : PlacedData). HasNoShadow p.item) (λ (p : PlacedData). HasNoShadow (placed_after area p).item)
      (λ p e. after_plain p.item (intersection_of p.area area) e) ps lie.no_shadow);
  apart = λ j k d less h x y.
      let m : k < length ps = omega (arith, length-map ps (placed_after area)) in
      let n : j < length ps = omega arith in
      pair_moved _ _ _ _ x y (ap (λ (p : PlacedData). p.area) (get_or-map (placed_after area) ps j d d n))
      (ap (λ (p : PlacedData). p.area) (get_or-map (placed_after area) ps k d d m)) (lie.apart j k d less m x y);
}

still_apart : (ps : List PlacedData) (i : ℕ) (q : PlacedData) (a c : Screen) → AreDisjointItems ps → IsReplaced ps i q a c → AreDisjointItems (replaced ps i q a)
still_apart ps i q a c lie r =
    lie_set ps i (placed_after a.area q) lie r.within
    (λ (d : PlacedData). r.same_area ∙ ap (λ (p : PlacedData). p.area) (get_or_default ps i no_widget d r.within))
    (after_plain q.item (intersection_of q.area a.area) r.no_shadow)

replaced_all : (ps last : List PlacedData) (rs : List (ℕ × PlacedData)) (a c : Screen) → AreDisjointItems ps → IsFresh ps a →
    AreReplaced ps a rs last c → IsFresh last c
replaced_all ps last [] a c lie fresh done =
    subst (λ (s : Screen). IsFresh last s) (sym done.1) (subst (λ qs. IsFresh qs a) (sym done.0) fresh)
replaced_all ps last (r ∷ rs) a c lie fresh done =
    replaced_all (replaced ps r.0 r.1 a) last rs done.0 c (still_apart ps r.0 r.1 a done.0 lie done.1)
    (replaced_is_fresh ps r.0 r.1 a done.0 lie fresh done.1) done.2

pub stays_fresh : StaysFresh
stays_fresh old new last rs a b c lie filled drawn done =
    replaced_all new last rs b c (subst AreDisjointItems (sym drawn.states) (lie_after a.area old lie)) (drawn_is_fresh old new a b filled drawn) done
