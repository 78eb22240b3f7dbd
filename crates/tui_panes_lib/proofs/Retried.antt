-- A leaf is replaced after replacements of it failed with `NoMemory`.
use Rattle.std.proofs.Common.{◌≡◌, ℕ, Bool, true, false, ◌&&◌, ◌||◌, if◌then◌else◌, List, [], ◌∷◌, All, Some, None, option_map, set, refl, sym, ap, ◌∙◌, subst}
use Rattle.std.proofs.lemmas.List.Elements.{All-head, All-tail}
use Rattle.tui_cells.specs.declared.rect.Rect.{Rect}
use Rattle.tui_cells.specs.Buffer.{Screen, cell_at}
use Rattle.tui_cells.specs.Cell.{blank, wipe}
use Rattle.tui_cells.specs.Layers.{KeptOutside, Painted, layers_at, stroke}
use Rattle.tui_cells.specs.Rect.{covers}
use Rattle.tui_cells.proofs.Painting.{KeptOutside-then, KeptOutside-weaker}
use Rattle.tui_cells.proofs.Regions.{covers_both}
use Rattle.tui_scene.specs.Item.{ItemData, PlacedData, placed_after, placed_layers}
use Rattle.tui_scene.specs.Redraw.{IsFresh, IsReplaced}
use Rattle.tui_scene.specs.Scene.{placed_at}
use Rattle.tui_scene.specs.Shadow.{HasNoShadow}
use Rattle.tui_scene.proofs.Freshness.{clip_is_footprint, replaced_is_fresh}
use Rattle.tui_panes_lib.specs.Laws.{AreFailedAttempts, RetriedIsFresh}
use Rattle.tui_panes_lib.specs.Replace.{item_in_leaf, touched}
use Rattle.tui_panes_lib.proofs.AreDisjointItems.{are_disjoint_items}

-- a widget without a shadow may change only cells of its rectangle
touched_inside : (buffer : Rect) (p : PlacedData) → HasNoShadow p.item → (x y : ℕ) → covers p.area x y ≡ false → touched buffer p x y ≡ false
touched_inside buffer p plain x y out =
    ap (λ t. covers p.area x y || t) (clip_is_footprint buffer p plain x y ∙ covers_both p.area buffer x y)
    ∙ ap (λ t. t || (t && covers buffer x y)) out

-- so all attempts changed only the leaf's rectangle
tries_kept : (leaves : List PlacedData) (leaf : ℕ) (tried : List ItemData) (a b : Screen) → All (λ i. HasNoShadow i) tried →
    AreFailedAttempts leaves leaf tried a b → KeptOutside (covers (placed_at leaves leaf).area) a b
tries_kept leaves leaf [] a b plain done =
    record { area = ap (λ (s : Screen). s.area) done; cells = λ x y out. ap (λ (s : Screen). cell_at s x y) done }
tries_kept leaves leaf (item ∷ items) a b plain done =
    KeptOutside-then
    (KeptOutside-weaker (touched_inside a.area (item_in_leaf leaves leaf item) (All-head (λ i. HasNoShadow i) item items plain)) done.1)
    (tries_kept leaves leaf items done.0 b (All-tail (λ i. HasNoShadow i) item items plain) done.2)

-- a cell of a rectangle that is reset is blank, whatever it was before
reset_cell : (area r : Rect) (s : Screen) (x y : ℕ) (t : Bool) → s.area ≡ r → covers r x y ≡ t → covers area x y ≡ true →
    option_map (layers_at (stroke (covers area) wipe) x y) (cell_at s x y) ≡ (if t then Some blank else None)
reset_cell area r s x y true is e inside = rw (is, e, inside) refl
reset_cell area r s x y false is e inside = rw (is, e) refl

-- resetting a rectangle gives the same buffer as if it had not changed
reset_alike : (area : Rect) (a b c : Screen) → KeptOutside (covers area) a b → Painted (stroke (covers area) wipe) b c →
    Painted (stroke (covers area) wipe) a c
reset_alike area a b c kept reset = record {
  area = reset.area ∙ kept.area;
  cells = λ x y. reset.cells x y ∙ alike x y (covers area x y) refl;
}
  where
    alike : (x y : ℕ) (t : Bool) → covers area x y ≡ t →
        option_map (layers_at (stroke (covers area) wipe) x y) (cell_at b x y) ≡ option_map (layers_at (stroke (covers area) wipe) x y) (cell_at a x y)
    alike x y true inside = reset_cell area a.area b x y _ kept.area refl inside ∙ sym (reset_cell area a.area a x y _ refl refl inside)
    alike x y false out = ap (option_map (layers_at (stroke (covers area) wipe) x y)) (kept.cells x y out)

pub retried : RetriedIsFresh
retried area leaves leaf tried item a b c lie plain others fresh tries r =
    let kept = tries_kept leaves leaf tried a b others tries in
    let p = item_in_leaf leaves leaf item in
    let untried : IsReplaced leaves leaf p a c = record {
      within = r.within;
      same_area = r.same_area;
      no_shadow = r.no_shadow;
      reset = r.reset;
      is_reset = reset_alike p.area a b r.reset kept r.is_reset;
      strokes = subst (λ (k : Rect). Painted (placed_layers k p) r.reset c) kept.area r.strokes;
    } in
    subst (λ (k : Rect). IsFresh (set leaves leaf (placed_after k p)) c) (sym kept.area)
    (replaced_is_fresh leaves leaf p a c (are_disjoint_items area leaves lie plain) fresh untried)
