-- Leaves whose rectangles share no position, as widgets of a scene.
use Rattle.std.proofs.Common.{◌≡◌, ℕ, zero, suc, ◌<◌, ◌&&◌, List, [], ◌∷◌, length, get_or, set, refl, sym, ap, ◌∙◌, arith}
use Rattle.std.proofs.lemmas.List.{get_or-map, length-map, map-set, set-get_or}
use Rattle.tui_cells.specs.declared.rect.Rect.{Rect}
use Rattle.tui_cells.specs.Rect.{covers}
use Rattle.tui_scene.specs.Item.{PlacedData}
use Rattle.tui_scene.specs.Redraw.{AreDisjointItems}
use Rattle.tui_scene.specs.Scene.{no_widget}
use Rattle.tui_scene.proofs.Freshness.{stays_fresh}
use Rattle.tui_panes_lib.specs.Draw.{HaveNoShadow}
use Rattle.tui_panes_lib.specs.Laws.{PanesStayFresh}
use Rattle.tui_panes_lib.specs.Panes.{rects_of}
use Rattle.tui_panes_lib.specs.Apart.{AreDisjointWithin}

abbrev area_of_leaf : PlacedData → Rect
area_of_leaf p = p.area

pub are_disjoint_items : (area : Rect) (leaves : List PlacedData) → AreDisjointWithin area (rects_of leaves) → HaveNoShadow leaves → AreDisjointItems leaves
are_disjoint_items area leaves lie plain = record {
  no_shadow = plain;
  apart = λ i j d less lt x y.
      let lt' : i < length leaves = omega arith in
      let n : j < length (rects_of leaves) = omega (arith, length-map leaves area_of_leaf) in
      ap (λ (r : Rect). covers r x y && covers (get_or leaves j d).area x y) (sym (get_or-map area_of_leaf leaves i d d.area lt'))
      ∙ ap (λ (r : Rect). covers (get_or (rects_of leaves) i d.area) x y && covers r x y) (sym (get_or-map area_of_leaf leaves j d d.area lt))
      ∙ lie.apart i j d.area less n x y;
}

pub stay_fresh : PanesStayFresh
stay_fresh area old new last changes a b c lie plain filled drawn done =
    stays_fresh old new last changes a b c (are_disjoint_items area old lie plain) filled drawn done

-- a leaf with the rectangle of the leaf that it replaces
pub areas_set : (leaves : List PlacedData) (leaf : ℕ) (p : PlacedData) → p.area ≡ (get_or leaves leaf no_widget).area → rects_of (set leaves leaf p) ≡ rects_of leaves
areas_set leaves leaf p same =
    map-set area_of_leaf leaves leaf p ∙ ap (set (rects_of leaves) leaf) (same ∙ mapped leaves leaf) ∙ set-get_or (rects_of leaves) leaf no_widget.area
  where
    mapped : (ps : List PlacedData) (i : ℕ) → (get_or ps i no_widget).area ≡ get_or (rects_of ps) i no_widget.area
    mapped [] i = refl
    mapped (p ∷ ps) zero = refl
    mapped (p ∷ ps) (suc i) = mapped ps i
