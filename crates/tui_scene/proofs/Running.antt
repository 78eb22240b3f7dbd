-- One more widget of a scene is drawn.
use Rattle.std.proofs.Common.{
  ◌≡◌,
  ℕ,
  ◌+◌,
  ◌<◌,
  ◌≤◌,
  List,
  [],
  ◌∷◌,
  ◌++◌,
  map,
  take,
  drop,
  length,
  get_or,
  set,
  All,
  refl,
  ◌∙◌,
  ap,
  sym,
  subst,
  arith,
  Option,
  Some,
  None,
  Bool,
  true,
  false,
  option_map,
  Result,
  Ok,
  Err,
  OnOk,
  add-one,
  drop-cons,
}
use Rattle.std.proofs.lemmas.Grind.{common_steps}
use Rattle.std.proofs.lemmas.List.{get_or-map, length-map, map-set, set-get_or, drop_all, take_more}
use Rattle.std.proofs.lemmas.List.Edits.{map_over_more}
use Rattle.std.proofs.lemmas.Option.{get_or_from_slice_get}
use Rattle.std.proofs.lemmas.List.Elements.{All-get_or}
use Rattle.std.proofs.lemmas.List.Concat.{flat_map-append}
use Rattle.tui_cells.specs.declared.rect.Rect.{Rect}
use Rattle.tui_cells.specs.Rect.{intersection_of}
use Rattle.tui_cells.specs.Buffer.{Screen, cell_at}
use Rattle.tui_cells.specs.Cell.{Look}
use Rattle.tui_cells.specs.Layers.{KeptOutside, Layer, Painted, StayIn, layers_at}
use Rattle.tui_cells.proofs.Painting.{Painted-append}
use Rattle.tui_scene.specs.Item.{IsAllocationFreePlaced, PlacedData, item_drawing, placed_after, placed_footprint, placed_layers}
use Rattle.tui_scene.specs.Scene.{DrawRun, DrawStep, in_footprints, scene_layers}
use Rattle.tui_scene.specs.Draw.{Stopped}
use Rattle.tui_scene.proofs.Strokes.{outside_more, scene_stays}

-- the first i widgets are drawn and their states are updated
pub record Drawn (old new : List PlacedData) (before now : Screen) (i : ℕ) : Type 0 where
  pub painted : Painted (scene_layers before.area (take i old)) before now
  pub states : new ≡ map (placed_after before.area) (take i old) ++ drop i old

-- a widget that is not drawn yet is unchanged
get_or-drawn : (f : PlacedData → PlacedData) (ps : List PlacedData) (i : ℕ) (d : PlacedData) → i < length ps →
    get_or (map f (take i ps) ++ drop i ps) i d ≡ get_or ps i d
get_or-drawn f ps i d lt = grind (arith, common_steps)

length-drawn : (f : PlacedData → PlacedData) (ps : List PlacedData) (i : ℕ) → i < length ps → length (map f (take i ps) ++ drop i ps) ≡ length ps
length-drawn f ps i lt = grind (arith, common_steps)

-- the strokes of one more widget
scene_layers-more : (area : Rect) (ps : List PlacedData) (i : ℕ) (d : PlacedData) → i < length ps →
    scene_layers area (take (i + 1) ps) ≡ scene_layers area (take i ps) ++ placed_layers area (get_or ps i d)
scene_layers-more area ps i d lt = grind (arith, common_steps, take_more, flat_map-append)

-- the widget at an index, among those that are unchanged
record IsNext {A : Type 0} (f : A → PlacedData) (xs : List A) (old : List PlacedData) (i : ℕ) (x : A) : Type 0 where
  pub now : get_or (map f xs) i (f x) ≡ f x
  pub was : f x ≡ get_or old i (f x)

next_is : {A : Type 0} (f : A → PlacedData) (xs : List A) (old : List PlacedData) (before mid : Screen) (i : ℕ) (x d : A) → i < length old →
    Drawn old (map f xs) before mid i → x ≡ get_or xs i d → IsNext f xs old i x
next_is f xs old before mid i x d lt drawn at =
    let long : length (map f xs) ≡ length old = rw drawn.states (length-drawn (placed_after before.area) old i lt) in
    let within : i < length xs = rw (← length-map xs f, long) lt in
    let here : get_or (map f xs) i (f x) ≡ f x = get_or-map f xs i d (f x) within ∙ sym (ap f at) in
    record { now = here; was = sym here ∙ rw drawn.states (get_or-drawn (placed_after before.area) old i (f x) lt) }

-- one more widget is drawn after the first ones
pub drawn_more : {A : Type 0} (f : A → PlacedData) (xs : List A) (old : List PlacedData) (before mid after : Screen) (i : ℕ) (x d q : A) → i < length old →
    Drawn old (map f xs) before mid i → x ≡ get_or xs i d → Painted (placed_layers mid.area (f x)) mid after → f q ≡ placed_after mid.area (f x) →
    Drawn old (map f (set xs i q)) before after (i + 1)
drawn_more f xs old before mid after i x d q lt drawn at p e =
    let next = next_is f xs old before mid i x d lt drawn at in
    let area : mid.area ≡ before.area = drawn.painted.area in
    let here : Painted (placed_layers before.area (f x)) mid after = subst (λ (r : Rect). Painted (placed_layers r (f x)) mid after) area p in
    let moved : f q ≡ placed_after before.area (f x) = e ∙ ap (λ (r : Rect). placed_after r (f x)) area in
    let more = map_over_more (placed_after before.area) old (map f xs) i (f x) lt drawn.states (sym next.now) in
    record {
      painted = rw (scene_layers-more before.area old i (f x) lt, ← next.was) (Painted-append _ _ before mid after drawn.painted here);
      states = map-set f xs i q ∙ (ap (set (map f xs) i) moved ∙ more);
    }

-- a run continues by one step
pub run_more : {A : Type 0} (f : A → PlacedData) (xs : List A) (old : List PlacedData) (before mid after last : Screen) (i : ℕ) (x d q : A) → i < length old →
    Drawn old (map f xs) before mid i → x ≡ get_or xs i d → DrawStep (f x) (f q) mid after → f q ≡ placed_after mid.area (f x) →
    DrawRun (drop (i + 1) old) (map (placed_after before.area) (drop (i + 1) old)) after last → DrawRun (drop i old) (map (placed_after before.area) (drop i old)) mid last
run_more f xs old before mid after last i x d q lt drawn at step e rest =
    let next = next_is f xs old before mid i x d lt drawn at in
    let moved : f q ≡ placed_after before.area (f x) = e ∙ ap (λ (r : Rect). placed_after r (f x)) drawn.painted.area in
    let whole : drop i old ≡ f x ∷ drop (i + 1) old = rw (add-one, drop-cons old i (f x) lt, ← next.was) refl in
    let one : DrawStep (f x) (placed_after before.area (f x)) mid after = subst (λ (r : PlacedData). DrawStep (f x) r mid after) moved step in
    subst (λ (qs : List PlacedData). DrawRun qs (map (placed_after before.area) qs) mid last) (sym whole) (after, (one, rest))

-- all widgets are drawn
pub all_moved : (g : PlacedData → PlacedData) (ps : List PlacedData) (i : ℕ) → length ps ≤ i → map g (take i ps) ++ drop i ps ≡ map g ps
all_moved g ps i le = grind (arith, common_steps)

pub run_done : (old new : List PlacedData) (before last : Screen) (i : ℕ) → length old ≤ i → Drawn old new before last i →
    ((end : Screen) → DrawRun (drop i old) (map (placed_after before.area) (drop i old)) last end → DrawRun old (map (placed_after before.area) old) before end) →
    DrawRun old new before last
run_done old new before last i le drawn run =
    let none : drop i old ≡ [] = drop_all i old le in
    let whole : DrawRun old (map (placed_after before.area) old) before last =
    run last (subst (λ (qs : List PlacedData). DrawRun qs (map (placed_after before.area) qs) last last) (sym none) refl) in
    subst (λ (qs : List PlacedData). DrawRun old qs before last) (sym (drawn.states ∙ all_moved (placed_after before.area) old i le)) whole

stateless : (ls : List Layer) (x y : ℕ) (o : Option Look) → ((c : Look) → layers_at ls x y c ≡ c) → option_map (layers_at ls x y) o ≡ o
stateless ls x y None e = refl
stateless ls x y (Some c) e = ap Some (e c)

-- a widget is out of memory
stopped_at : (old new : List PlacedData) (before mid after : Screen) (i : ℕ) (d : PlacedData) → i < length old →
    Drawn old new before mid i → KeptOutside (placed_footprint mid.area (get_or old i d)) mid after →
    Stopped old new before after i
stopped_at old new before mid after i d lt drawn kept =
    let here : KeptOutside (placed_footprint before.area (get_or old i d)) mid after =
    subst (λ (r : Rect). KeptOutside (placed_footprint r (get_or old i d)) mid after) drawn.painted.area kept in
    record {
      within = lt;
      states = drawn.states;
      kept = record {
        area = here.area ∙ drawn.painted.area;
        cells = λ x y out.
            let apart : (in_footprints before.area (take i old) x y ≡ false) × (placed_footprint before.area (get_or old i d) x y ≡ false) =
            outside_more before.area (take i old) (get_or old i d) x y (rw (← take_more old i d lt) out) in
            here.cells x y apart.1 ∙ (drawn.painted.cells x y
            ∙ stateless (scene_layers before.area (take i old)) x y (cell_at before x y) (scene_stays before.area (take i old) x y apart.0));
      };
      drawn = λ x y p h out. here.cells x y (rw (get_or_from_slice_get old i p d h) out) ∙ drawn.painted.cells x y;
    }

pub stopped : {A : Type 0} (f : A → PlacedData) (xs : List A) (old : List PlacedData) (before mid after : Screen) (i : ℕ) (x d q : A) → i < length old →
    Drawn old (map f xs) before mid i → x ≡ get_or xs i d → KeptOutside (placed_footprint mid.area (f x)) mid after → f q ≡ f x →
    Stopped old (map f (set xs i q)) before after i
stopped f xs old before mid after i x d q lt drawn at kept e =
    let next = next_is f xs old before mid i x d lt drawn at in
    let same : map f (set xs i q) ≡ map f xs =
    map-set f xs i q ∙ (ap (set (map f xs) i) (e ∙ sym next.now) ∙ set-get_or (map f xs) i (f x)) in
    let now : Drawn old (map f (set xs i q)) before mid i = record { painted = drawn.painted; states = same ∙ drawn.states } in
    stopped_at old (map f (set xs i q)) before mid after i (f x) lt now (subst (λ (p : PlacedData). KeptOutside (placed_footprint mid.area p) mid after) next.was kept)

-- a widget of a scene whose widgets do not allocate, if the buffer still has its area
pub allocation_free_at : {A : Type 0} (f : A → PlacedData) (xs : List A) (old : List PlacedData) (before mid : Screen) (i : ℕ) (x d : A) → i < length old →
    Drawn old (map f xs) before mid i → x ≡ get_or xs i d → All (IsAllocationFreePlaced before.area) old → IsAllocationFreePlaced mid.area (f x)
allocation_free_at f xs old before mid i x d lt drawn at all =
    let next = next_is f xs old before mid i x d lt drawn at in
    subst (λ (r : Rect). IsAllocationFreePlaced r (f x)) (sym drawn.painted.area)
    (subst (IsAllocationFreePlaced before.area) (sym next.was) (All-get_or (IsAllocationFreePlaced before.area) old i (f x) lt all))

-- a drawing that stays in a region changes nothing outside it
pub kept_of : (region : ℕ → ℕ → Bool) (ls : List Layer) (before after : Screen) → Painted ls before after → StayIn region ls → KeptOutside region before after
kept_of region ls before after painted stays = record {
  area = painted.area;
  cells = λ x y out. painted.cells x y ∙ stateless ls x y (cell_at before x y) (stays.cell x y out);
}

-- a widget that was drawn has made one step
pub step_of : {T E : Type 0} (result : Result T E) (p q : PlacedData) (before after : Screen) → q.area ≡ p.area →
    OnOk result (Painted (placed_layers before.area p) before after) →
    OnOk result ((item_drawing p.item).shows q.item (intersection_of p.area before.area) before after) →
    OnOk result (DrawStep p q before after)
step_of (Ok x) p q before after same painted shows = record {
  kept = kept_of (placed_footprint before.area p) (placed_layers before.area p) before after painted ((item_drawing p.item).stays (intersection_of p.area before.area));
  placed = same;
  shows = shows;
}
step_of (Err e) p q before after same painted shows = tt

-- a result that follows if the clip is empty, and from a property if it is not
pub either : (b : Bool) (P R : Type 0) → (b ≡ true → R) → (P → R) → (b ≡ false → P) → R
either true P R e f h = e refl
either false P R e f h = f (h refl)
