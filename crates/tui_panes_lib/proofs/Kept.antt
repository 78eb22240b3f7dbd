-- What panes store beside their leaves.
use Rattle.std.proofs.Common.{◌≡◌, ℕ, ◌<◌, Bool, true, false, ◌&&◌, List, ◌++◌, length, get_or, take, drop, All}
use Rattle.std.proofs.Common.{sym, ap, ◌∙◌, subst, arith, inl, inr, Option, Some, None}
use Rattle.std.specs.Prelude.{◌↔◌, IfNone, IfSome}
use Rattle.std.proofs.lemmas.Bool.{cases_order}
use Rattle.std.proofs.lemmas.List.{get_or-map, length-append, length-drop, length-map, length-take}
use Rattle.std.proofs.lemmas.List.Elements.{All-get_or}
use Rattle.tui_cells.specs.declared.rect.Rect.{Rect}
use Rattle.tui_cells.specs.Rect.{covers}
use Rattle.tui_scene.specs.Item.{PlacedData}
use Rattle.tui_scene.specs.Scene.{no_widget, placed_at}
use Rattle.tui_panes_lib.specs.Panes.{AreConsistent, rects_of}
use Rattle.tui_panes_lib.specs.Apart.{AreDisjointWithin}
use Rattle.tui_panes_lib.specs.Place.{PaneData, leaves_in}
use Rattle.tui_panes_lib.proofs.DisjointLeaves.{are_disjoint_within}

-- new panes
pub new_kept : (area : Rect) (pane : PaneData) (rects : List Rect) (marks : List Bool) (leaves : List PlacedData) → leaves ≡ leaves_in area pane →
    rects ≡ rects_of leaves → length marks ≡ length rects → AreConsistent area rects marks leaves
new_kept area pane rects marks leaves placed is same_length = record {
  rects_are = is;
  apart = subst (AreDisjointWithin area) (sym (is ∙ ap rects_of placed)) (are_disjoint_within area pane);
  same_length = same_length ∙ ap length is ∙ length-map leaves (λ p. p.area);
}

-- the same for other leaves in the same rectangles
pub still_kept : (area : Rect) (rects : List Rect) (marks others : List Bool) (leaves new : List PlacedData) → AreConsistent area rects marks leaves →
    rects_of new ≡ rects_of leaves → length others ≡ length marks → AreConsistent area rects others new
still_kept area rects marks others leaves new kept same long = record {
  rects_are = kept.rects_are ∙ sym same;
  apart = kept.apart;
  same_length = long ∙ kept.same_length ∙ sym (length-map leaves (λ p. p.area)) ∙ ap length (sym same) ∙ length-map new (λ p. p.area);
}

-- marks that were borrowed as a slice and given back
pub marks_back : (marks borrowed : List Bool) (n : ℕ) → n ≡ length marks → length borrowed ≡ length marks →
    length (take n (borrowed ++ drop (length borrowed) marks)) ≡ length marks
marks_back marks borrowed n is long =
    omega (arith, length-take n (borrowed ++ drop (length borrowed) marks), length-append borrowed (drop (length borrowed) marks), length-drop (length borrowed) marks)

-- the leaf that contains a position

pub rect_is : (rects : List Rect) (leaves : List PlacedData) (i : ℕ) (d : Rect) → rects ≡ rects_of leaves → i < length leaves → get_or rects i d ≡ (placed_at leaves i).area
rect_is rects leaves i d is lt = ap (λ (rs : List Rect). get_or rs i d) is ∙ get_or-map (λ p. p.area) leaves i no_widget d lt

both_true : (a b : Bool) → a ≡ true → b ≡ true → (a && b) ≡ false → ⊥
both_true a b e f h = absurd (cc)

no_true : (a : Bool) → a ≡ true → a ≡ false → ⊥
no_true a e f = absurd (cc)

pub one_leaf : (area : Rect) (rects : List Rect) (marks : List Bool) (leaves : List PlacedData) (x y i k : ℕ) → AreConsistent area rects marks leaves →
    i < length leaves → k < length leaves → covers (placed_at leaves i).area x y ≡ true → covers (placed_at leaves k).area x y ≡ true → i ≡ k
one_leaf area rects marks leaves x y i k kept below within here there =
    let d = no_widget.area in
    let long : length rects ≡ length leaves = ap length kept.rects_are ∙ length-map leaves (λ p. p.area) in
    let one : covers (get_or rects i d) x y ≡ true = ap (λ (r : Rect). covers r x y) (rect_is rects leaves i d kept.rects_are below) ∙ here in
    let other : covers (get_or rects k d) x y ≡ true = ap (λ (r : Rect). covers r x y) (rect_is rects leaves k d kept.rects_are within) ∙ there in
    elim (cases_order i k) [
      | inl same ↦ same
      | inr (inl less) ↦ absurd (both_true _ _ one other (kept.apart.apart i k d less (omega arith) x y))
      | inr (inr more) ↦ absurd (both_true _ _ other one (kept.apart.apart k i d more (omega arith) x y))
    ]

pub leaf_found : (area : Rect) (rects : List Rect) (marks : List Bool) (leaves : List PlacedData) (x y : ℕ) (found : Option ℕ) → AreConsistent area rects marks leaves →
    IfSome found (λ i. (i < length rects) × ((d : Rect) → covers (get_or rects i d) x y ≡ true)) → IfNone found (All (λ r. covers r x y ≡ false) rects) →
    (i : ℕ) → (found ≡ Some i) ↔ ((i < length leaves) × (covers (placed_at leaves i).area x y ≡ true))
leaf_found area rects marks leaves x y (Some k) kept some none i =
    let d = no_widget.area in
    let long : length rects ≡ length leaves = ap length kept.rects_are ∙ length-map leaves (λ p. p.area) in
    let within : k < length leaves = let lt = some.0 in omega arith in
    let here : covers (placed_at leaves k).area x y ≡ true = ap (λ (r : Rect). covers r x y) (sym (rect_is rects leaves k d kept.rects_are within)) ∙ some.1 d in (
      λ e. let same : k ≡ i = cc in (subst (λ n. n < length leaves) same within, subst (λ n. covers (placed_at leaves n).area x y ≡ true) same here),
      λ h. ap Some (one_leaf area rects marks leaves x y k i kept within h.0 here h.1),
    )
leaf_found area rects marks leaves x y None kept some none i =
    let d = no_widget.area in
    let long : length rects ≡ length leaves = ap length kept.rects_are ∙ length-map leaves (λ p. p.area) in (
      λ e. absurd (cc),
      λ h.
          let below : i < length leaves = h.0 in
          absurd (no_true _ h.1 (ap (λ (r : Rect). covers r x y) (sym (rect_is rects leaves i d kept.rects_are below))
          ∙ All-get_or (λ (r : Rect). covers r x y ≡ false) rects i d (omega arith) none)),
    )
