-- Strokes of widgets, what they do not change, and the states that they leave.
use Rattle.std.proofs.Common.{◌≡◌, ℕ, Bool, ◌&&◌, ◌||◌, true, false, List, ◌++◌, [], ◌∷◌, refl, ◌∙◌, ap, sym, Some, None, option_map, if◌then◌else◌, map}
use Rattle.std.proofs.lemmas.List.Concat.{flat_map-append}
use Rattle.std.proofs.lemmas.List.{map-append}
use Rattle.tui_cells.specs.declared.rect.Rect.{Rect}
use Rattle.tui_cells.specs.Rect.{covers, intersection_of}
use Rattle.tui_cells.specs.Buffer.{Screen, look_at}
use Rattle.tui_cells.specs.Cell.{Look}
use Rattle.tui_cells.specs.Layers.{Layer, layers_at}
use Rattle.tui_cells.proofs.Painting.{Painted-nowhere, layers_at-append}
use Rattle.tui_scene.specs.Item.{ItemData, PlacedData, item_drawing, item_is_stable, placed_after, placed_footprint, placed_layers}
use Rattle.tui_scene.specs.Scene.{in_footprints, scene_layers}
use Rattle.tui_scene.specs.Laws.{DisjointItemsCommute, StatesAreStable, OutsideIsUnchanged}

-- two lists of strokes, each of which changes nothing outside its footprint; the footprints share no position
swapped : (P Q : List Layer) (f g : Bool) (x y : ℕ) → (f && g) ≡ false →
    (f ≡ false → (c : Look) → layers_at P x y c ≡ c) → (g ≡ false → (c : Look) → layers_at Q x y c ≡ c) →
    (c : Look) → layers_at Q x y (layers_at P x y c) ≡ layers_at P x y (layers_at Q x y c)
swapped P Q true true x y apart p q c = cc
swapped P Q true false x y apart p q c = q refl (layers_at P x y c) ∙ ap (layers_at P x y) (sym (q refl c))
swapped P Q false g x y apart p q c = ap (layers_at Q x y) (p refl c) ∙ sym (p refl (layers_at Q x y c))

-- the strokes of one scene and then of another
through : (area : Rect) (ps qs : List PlacedData) (x y : ℕ) (c : Look) →
    layers_at (scene_layers area (ps ++ qs)) x y c ≡ layers_at (scene_layers area qs) x y (layers_at (scene_layers area ps) x y c)
through area ps qs x y c =
    ap (λ ls. layers_at ls x y c) (flat_map-append (placed_layers area) ps qs) ∙ layers_at-append (scene_layers area ps) (scene_layers area qs) x y c

-- the strokes of two widgets and of those after them
two : (area : Rect) (p q : PlacedData) (qs : List PlacedData) (x y : ℕ) (c : Look) →
    layers_at (scene_layers area (p ∷ q ∷ qs)) x y c
    ≡ layers_at (scene_layers area qs) x y (layers_at (placed_layers area q) x y (layers_at (placed_layers area p) x y c))
two area p q qs x y c =
    layers_at-append (placed_layers area p) (scene_layers area (q ∷ qs)) x y c
    ∙ layers_at-append (placed_layers area q) (scene_layers area qs) x y (layers_at (placed_layers area p) x y c)

swapped_look : (area : Rect) (ps : List PlacedData) (p q : PlacedData) (qs : List PlacedData) (x y : ℕ) →
    (placed_footprint area p x y && placed_footprint area q x y) ≡ false → (c : Look) →
    layers_at (scene_layers area (ps ++ p ∷ q ∷ qs)) x y c ≡ layers_at (scene_layers area (ps ++ q ∷ p ∷ qs)) x y c
swapped_look area ps p q qs x y apart c =
    let k = layers_at (scene_layers area ps) x y c in
    let turned : layers_at (placed_layers area q) x y (layers_at (placed_layers area p) x y k)
    ≡ layers_at (placed_layers area p) x y (layers_at (placed_layers area q) x y k) =
    swapped (placed_layers area p) (placed_layers area q) (placed_footprint area p x y) (placed_footprint area q x y) x y apart
    (λ out j. ((item_drawing p.item).stays (intersection_of p.area area)).cell x y out j)
    (λ out j. ((item_drawing q.item).stays (intersection_of q.area area)).cell x y out j) k in
    through area ps (p ∷ q ∷ qs) x y c ∙ (two area p q qs x y k
    ∙ (ap (layers_at (scene_layers area qs) x y) turned ∙ sym (through area ps (q ∷ p ∷ qs) x y c ∙ two area q p qs x y k)))

-- there is no cell outside a buffer
swapped_cell : (a : Screen) (ps : List PlacedData) (p q : PlacedData) (qs : List PlacedData) (x y : ℕ) (here : Bool) → covers a.area x y ≡ here →
    (covers a.area x y ≡ true → (placed_footprint a.area p x y && placed_footprint a.area q x y) ≡ false) →
    option_map (layers_at (scene_layers a.area (ps ++ p ∷ q ∷ qs)) x y) (if here then Some (look_at a x y) else None)
    ≡ option_map (layers_at (scene_layers a.area (ps ++ q ∷ p ∷ qs)) x y) (if here then Some (look_at a x y) else None)
swapped_cell a ps p q qs x y true is apart = ap Some (swapped_look a.area ps p q qs x y (apart is) (look_at a x y))
swapped_cell a ps p q qs x y false is apart = refl

pub order : DisjointItemsCommute
order ps p q qs firsts seconds a b c apart first second = (
  λ x y. first.cells.cells x y ∙ (swapped_cell a ps p q qs x y (covers a.area x y) refl (apart x y) ∙ sym (second.cells.cells x y)),
  record {
    before = map (placed_after a.area) ps;
    one = placed_after a.area p;
    other = placed_after a.area q;
    following = map (placed_after a.area) qs;
    first_is = first.states ∙ map-append (placed_after a.area) ps (p ∷ q ∷ qs);
    second_is = second.states ∙ map-append (placed_after a.area) ps (q ∷ p ∷ qs);
  },
)

placed_settles : (area : Rect) (p : PlacedData) → placed_after area (placed_after area p) ≡ placed_after area p
placed_settles area p =
    let clip = intersection_of p.area area in ap (λ (i : ItemData). record { area = p.area; item = i }) ((item_is_stable p.item clip).is_idempotent)

all_settle : (area : Rect) (ps : List PlacedData) → map (placed_after area) (map (placed_after area) ps) ≡ map (placed_after area) ps
all_settle area [] = refl
all_settle area (p ∷ ps) =
    ap (λ (q : PlacedData). q ∷ map (placed_after area) (map (placed_after area) ps)) (placed_settles area p)
    ∙ ap (λ (qs : List PlacedData). placed_after area p ∷ qs) (all_settle area ps)

pub states_stable : StatesAreStable
states_stable old new again a b c d same first second =
    second.states ∙ (ap (λ (r : Rect). map (placed_after r) new) same
    ∙ (ap (map (placed_after a.area)) first.states ∙ (all_settle a.area old ∙ sym first.states)))

pub outside : OutsideIsUnchanged
outside p a b e = (
  ap (λ (i : ItemData). record { area = p.area; item = i }) ((item_is_stable p.item (intersection_of p.area a.area)).rests e),
  λ painted. (Painted-nowhere ((item_drawing p.item).stays (intersection_of p.area a.area))
      ((item_drawing p.item).nowhere (intersection_of p.area a.area) e) painted).cells,
)

neither : (a b : Bool) → (a || b) ≡ false → (a ≡ false) × (b ≡ false)
neither true b e = cc
neither false b e = (refl, e)

-- strokes change nothing outside the footprints of all widgets
pub scene_stays : (area : Rect) (ps : List PlacedData) (x y : ℕ) → in_footprints area ps x y ≡ false →
    (c : Look) → layers_at (scene_layers area ps) x y c ≡ c
scene_stays area [] x y out c = refl
scene_stays area (p ∷ ps) x y out c =
    let each : (placed_footprint area p x y ≡ false) × (in_footprints area ps x y ≡ false) = neither _ _ out in
    layers_at-append (placed_layers area p) (scene_layers area ps) x y c
    ∙ (scene_stays area ps x y each.1 (layers_at (placed_layers area p) x y c)
    ∙ ((item_drawing p.item).stays (intersection_of p.area area)).cell x y each.0 c)

-- the footprints of one more widget
pub outside_more : (area : Rect) (ps : List PlacedData) (p : PlacedData) (x y : ℕ) → in_footprints area (ps ++ p ∷ []) x y ≡ false →
    (in_footprints area ps x y ≡ false) × (placed_footprint area p x y ≡ false)
outside_more area [] p x y out = (refl, (neither _ _ out).0)
outside_more area (q ∷ ps) p x y out =
    let first : (placed_footprint area q x y ≡ false) × (in_footprints area (ps ++ p ∷ []) x y ≡ false) = neither _ _ out in
    let rest : (in_footprints area ps x y ≡ false) × (placed_footprint area p x y ≡ false) = outside_more area ps p x y first.1 in
    (rw (first.0, rest.0) refl, rest.1)
