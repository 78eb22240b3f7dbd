-- A leaf is replaced, and on failure restored.
use Rattle.std.proofs.Common.{◌≡◌, ℕ, ◌<◌, List, length, set, sym, ap, ◌∙◌, subst, Result, Ok, Err, OnOk, OnErr}
use Rattle.std.proofs.lemmas.List.{get_or-set_same, set-get_or, set-set}
use Rattle.std.proofs.lemmas.Bool.{cond-false, or_parts}
use Rattle.tui_cells.specs.declared.rect.Rect.{Rect}
use Rattle.tui_cells.specs.Cell.{wipe}
use Rattle.tui_cells.specs.Layers.{KeptOutside, Painted, stroke}
use Rattle.tui_cells.specs.Rect.{covers}
use Rattle.tui_cells.proofs.Painting.{KeptOutside-then, KeptOutside-weaker, Painted-kept}
use Rattle.tui_cells.specs.Buffer.{Screen}
use Rattle.tui_scene.specs.Item.{ItemData, PlacedData, placed_after, placed_footprint}
use Rattle.tui_scene.specs.Redraw.{IsFresh, IsReplaced}
use Rattle.tui_scene.specs.Scene.{no_widget, placed_at}
use Rattle.tui_scene.specs.Shadow.{HasNoShadow}
use Rattle.tui_scene.proofs.Freshness.{replaced_is_fresh}
use Rattle.tui_panes_lib.specs.Draw.{HaveNoShadow}
use Rattle.tui_panes_lib.specs.Panes.{rects_of}
use Rattle.tui_panes_lib.specs.Replace.{IsRedrawn, item_in_leaf, touched}
use Rattle.tui_panes_lib.proofs.AreDisjointItems.{areas_set, are_disjoint_items}
use Rattle.tui_panes_lib.specs.Apart.{AreDisjointWithin}

pub restored : (old next drawn again : List PlacedData) (at : ℕ) (p was : PlacedData) → next ≡ set old at p → was ≡ placed_at old at →
    drawn ≡ next → again ≡ set drawn at was → again ≡ old
restored old next drawn again at p was set_to is unmoved back =
    back ∙ ap (λ (ps : List PlacedData). set ps at was) (unmoved ∙ set_to) ∙ set-set old at p was ∙ ap (set old at) is ∙ set-get_or old at no_widget

-- the rectangles do not change
pub areas_stay : {T E : Type 0} (result : Result T E) (buffer : Rect) (leaves new : List PlacedData) (leaf : ℕ) (p : PlacedData) → p.area ≡ (placed_at leaves leaf).area →
    OnOk result (new ≡ set leaves leaf (placed_after buffer p)) → OnErr result (new ≡ leaves) → rects_of new ≡ rects_of leaves
areas_stay (Ok x) buffer leaves new leaf p same set_to unmoved = ap rects_of set_to ∙ areas_set leaves leaf (placed_after buffer p) same
areas_stay (Err e) buffer leaves new leaf p same set_to unmoved = ap rects_of unmoved

pub redrawn_replaced : {T E : Type 0} (result : Result T E) (leaves : List PlacedData) (leaf : ℕ) (area : Rect) (item : ItemData) (q : PlacedData) (a b : Screen) →
    leaf < length leaves → area ≡ (placed_at leaves leaf).area → HasNoShadow item → OnOk result (IsRedrawn (record { area = area; item = item }) q a b) →
    OnOk result (IsReplaced leaves leaf (item_in_leaf leaves leaf item) a b)
redrawn_replaced (Ok x) leaves leaf area item q a b within same plain redrawn =
    subst (λ (r : Rect). IsReplaced leaves leaf (record { area = r; item = item }) a b) same (record {
      within = within;
      same_area = same;
      no_shadow = plain;
      reset = redrawn.reset;
      is_reset = redrawn.is_reset;
      strokes = redrawn.strokes;
    })
redrawn_replaced (Err e) leaves leaf area item q a b within same plain redrawn = tt

pub redrawn_fresh : {T E : Type 0} (result : Result T E) (whole : Rect) (leaves new : List PlacedData) (leaf : ℕ) (area : Rect) (item : ItemData) (q : PlacedData) (a b : Screen) →
    leaf < length leaves → area ≡ (placed_at leaves leaf).area → AreDisjointWithin whole (rects_of leaves) → HaveNoShadow leaves → HasNoShadow item → IsFresh leaves a →
    OnOk result (IsRedrawn (record { area = area; item = item }) q a b) → OnOk result (new ≡ set leaves leaf (placed_after a.area (record { area = area; item = item }))) →
    OnOk result (IsFresh new b)
redrawn_fresh {E = E} (Ok x) whole leaves new leaf area item q a b within same lie plain new_plain fresh redrawn set_to =
    let is : IsReplaced leaves leaf (item_in_leaf leaves leaf item) a b =
    redrawn_replaced {E = E} (Ok x) leaves leaf area item q a b within same new_plain redrawn in
    subst (λ ps. IsFresh ps b)
    (sym (set_to ∙ ap (λ (r : Rect). set leaves leaf (placed_after a.area (record { area = r; item = item }))) same))
    (replaced_is_fresh leaves leaf (item_in_leaf leaves leaf item) a b (are_disjoint_items whole leaves lie plain) fresh is)
redrawn_fresh (Err e) whole leaves new leaf area item q a b within same lie plain new_plain fresh redrawn set_to = tt

-- an item that was set at an index is there
there : (old next : List PlacedData) (at : ℕ) (p : PlacedData) → at < length old → next ≡ set old at p → placed_at next at ≡ p
there old next at p within set_to = ap (λ (ps : List PlacedData). placed_at ps at) set_to ∙ get_or-set_same old at p no_widget within

-- and after it is drawn its state is updated
pub moved_there : (old next drawn : List PlacedData) (at : ℕ) (p : PlacedData) (buffer reset : Rect) → at < length old → next ≡ set old at p →
    reset ≡ buffer → drawn ≡ set next at (placed_after reset (placed_at next at)) → drawn ≡ set old at (placed_after buffer p)
moved_there old next drawn at p buffer reset within set_to same moved =
    moved ∙ ap (λ (r : Rect). set next at (placed_after r (placed_at next at))) same
    ∙ ap (λ (q : PlacedData). set next at (placed_after buffer q)) (there old next at p within set_to)
    ∙ ap (λ (ps : List PlacedData). set ps at (placed_after buffer p)) set_to ∙ set-set old at p (placed_after buffer p)

-- the area was reset, and then the widget failed to allocate
pub kept_there : (old next : List PlacedData) (at : ℕ) (p : PlacedData) (before reset after : Screen) → at < length old → next ≡ set old at p →
    Painted (stroke (covers p.area) wipe) before reset → KeptOutside (placed_footprint reset.area (placed_at next at)) reset after →
    KeptOutside (touched before.area p) before after
kept_there old next at p before reset after within set_to painted kept =
    let wiped : KeptOutside (covers p.area) before reset = Painted-kept (record { cell = λ x y out c. cond-false _ _ _ out }) painted in
    let drawn : KeptOutside (placed_footprint before.area p) reset after =
    subst (λ (q : PlacedData). KeptOutside (placed_footprint before.area q) reset after) (there old next at p within set_to)
    (subst (λ (r : Rect). KeptOutside (placed_footprint r (placed_at next at)) reset after) painted.area kept) in
    KeptOutside-then
    (KeptOutside-weaker {S = touched before.area p} (λ x y out. (or_parts (covers p.area x y) (placed_footprint before.area p x y) out).0) wiped)
    (KeptOutside-weaker {S = touched before.area p} (λ x y out. (or_parts (covers p.area x y) (placed_footprint before.area p x y) out).1) drawn)
