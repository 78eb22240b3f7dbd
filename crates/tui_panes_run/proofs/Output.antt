-- An input has one output.
use Rattle.std.proofs.Common.{◌≡◌, ℕ, ◌<◌, Bool, true, false, ◌&&◌, List, [], ◌∷◌, length, get_or, map, Option, Some, None, option_map}
use Rattle.std.proofs.Common.{refl, sym, ap, ◌∙◌, subst, arith, inl, inr}
use Rattle.std.proofs.lemmas.Bool.{cases_lt}
use Rattle.std.proofs.lemmas.List.{get_or-map, length-map}
use Rattle.tui_cells.specs.declared.rect.Rect.{Rect}
use Rattle.tui_cells.specs.Buffer.{IsFilled, Screen, cell_at}
use Rattle.tui_cells.specs.Cell.{blank}
use Rattle.tui_cells.specs.Layers.{Layer, Painted, SameCells, layers_at}
use Rattle.tui_cells.specs.Rect.{covers}
use Rattle.tui_print.specs.Print.{IsPrint}
use Rattle.tui_print.proofs.Unique.{one_print}
use Rattle.tui_scene.specs.Item.{PlacedData, placed_after, placed_layers}
use Rattle.tui_scene.specs.Scene.{no_widget, placed_at, scene_layers}
use Rattle.tui_scene.proofs.Drawn.{filled_cell, one_screen}
use Rattle.tui_panes_lib.specs.Draw.{in_order}
use Rattle.tui_panes_lib.specs.Replace.{item_in_leaf}
use Rattle.tui_panes_lib.proofs.DisjointLeaves.{are_disjoint_within}
use Rattle.tui_panes_lib.specs.Apart.{AreDisjointWithin}
use Rattle.tui_panes_run.specs.Changes.{ChangeData}
use Rattle.tui_panes_run.specs.Found.{IsFound, IsLeafAt, leaf_line}
use Rattle.tui_panes_run.specs.Input.{InputData}
use Rattle.tui_panes_run.specs.Laws.{AreDrawnFromBlank, OutputIsOne, ReverseIsSame, leaves_after}
use Rattle.tui_panes_run.specs.Order.{numbers_of}
use Rattle.tui_panes_run.specs.Shown.{AreChanged, ArePanesShown, changed, leaves_of, screen_area}
use Rattle.tui_panes_run.specs.declared.command.PanesCommand.TheVariants as command
use Rattle.tui_panes_run.specs.declared.order.Order.{Order}
use Rattle.tui_panes_run.specs.declared.order.Order.TheVariants as order
use Rattle.tui_panes_run.proofs.FromBlank.{prints_afresh}

-- the same strokes on the same cells
same_painted : {ls : List Layer} {a b c d : Screen} → SameCells a c → Painted ls a b → Painted ls c d → SameCells b d
same_painted {ls = ls} same p q = record {
  area = q.area ∙ same.area ∙ sym p.area;
  cells = λ x y. q.cells x y ∙ ap (option_map (layers_at ls x y)) (same.cells x y) ∙ sym (p.cells x y);
}

-- blank buffers of one area have the same cells
same_blank : (r : Rect) (a b : Screen) → IsFilled r blank a → IsFilled r blank b → SameCells a b
same_blank r a b p q = record {
  area = q.area_is ∙ sym p.area_is;
  cells = λ x y. filled_cell r b q x y ∙ sym (filled_cell r a p x y);
}

-- widgets on blank buffers of one area draw the same
same_drawn : (r : Rect) (ps : List PlacedData) (a b c d : Screen) → IsFilled r blank a → IsFilled r blank c → Painted (scene_layers a.area ps) a b →
    Painted (scene_layers c.area ps) c d → SameCells b d
same_drawn r ps a b c d p q first second =
    same_painted (same_blank r a c p q) first
    (subst (λ (k : Rect). Painted (scene_layers k ps) c d) (q.area_is ∙ sym p.area_is) second)

-- the same leaves, and screens with the same cells
record AreAlike (last other : List PlacedData) (a b : Screen) : Type 0 where
  leaves : other ≡ last
  screens : SameCells a b

changed_alike : (leaves : List PlacedData) (a b : Screen) (changes : List ChangeData) (last other : List PlacedData) (after different : Screen) →
    SameCells a b → AreChanged leaves a changes last after → AreChanged leaves b changes other different → AreAlike last other after different
changed_alike leaves a b [] last other after different same p q = record {
  leaves = q.0 ∙ sym p.0;
  screens = record {
    area = ap (λ (s : Screen). s.area) q.1 ∙ same.area ∙ sym (ap (λ (s : Screen). s.area) p.1);
    cells = λ x y. ap (λ (s : Screen). cell_at s x y) q.1 ∙ same.cells x y ∙ sym (ap (λ (s : Screen). cell_at s x y) p.1);
  };
}
changed_alike leaves a b (c ∷ cs) last other after different same p q =
    let placed = item_in_leaf leaves c.leaf c.item in
    let reset = same_painted same p.1.is_reset q.1.is_reset in
    let strokes = subst (λ (r : Rect). Painted (placed_layers r placed) q.1.reset q.0) same.area q.1.strokes in
    let next = same_painted reset p.1.strokes strokes in
    changed_alike (changed a.area leaves c) p.0 q.0 cs last other after different next p.2
    (subst (λ (r : Rect). AreChanged (changed r leaves c) q.0 cs other different) same.area q.2)

-- the print of the same leaves on the same screen
same_print : (input : InputData) (o p : Order) (text other : List ℕ) (a : ArePanesShown o input text) (b : ArePanesShown p input other) →
    AreAlike a.last b.last a.screen b.screen → other ≡ text
same_print input o p text other a b alike =
    let screen : b.screen ≡ a.screen = one_screen a.screen b.screen alike.screens.area a.drawn.shape b.drawn.shape alike.screens.cells in
    one_print a.screen a.last text other a.is_print
    (subst (λ (s : Screen). IsPrint s a.last other) screen (subst (λ (ps : List PlacedData). IsPrint b.screen ps other) alike.leaves b.is_print))

one_drawing : (o : Order) (input : InputData) (text other : List ℕ) → ArePanesShown o input text → ArePanesShown o input other → other ≡ text
one_drawing o input text other a b =
    let p = a.drawn in
    let q = b.drawn in
    let leaves = leaves_of input in
    let drawn = same_drawn (screen_area input) (in_order (numbers_of o (length leaves)) leaves) p.first p.drawn q.first q.drawn p.blank_first q.blank_first
    p.strokes.cells q.strokes.cells in
    let moved : q.moved ≡ p.moved = q.states ∙ sym p.states in
    same_print input o o text other a b
    (changed_alike p.moved p.drawn q.drawn input.changes a.last b.last a.screen b.screen drawn p.changed
    (subst (λ (ps : List PlacedData). AreChanged ps q.drawn input.changes b.last b.screen) moved q.changed))

-- at most one leaf contains a position

abbrev area_of_leaf : PlacedData → Rect
area_of_leaf p = p.area

both_cover : (a b : Bool) → a ≡ true → b ≡ true → (a && b) ≡ false → ⊥
both_cover true true p q h = absurd cc
both_cover true false p q h = absurd cc
both_cover false b p q h = absurd cc

not_both : (area : Rect) (leaves : List PlacedData) (i j x y : ℕ) → AreDisjointWithin area (map area_of_leaf leaves) → i < j → j < length leaves →
    covers (placed_at leaves i).area x y ≡ true → covers (placed_at leaves j).area x y ≡ true → ⊥
not_both area leaves i j x y lie less lt here there =
    let rects = map area_of_leaf leaves in
    let first : get_or rects i no_widget.area ≡ (placed_at leaves i).area = get_or-map area_of_leaf leaves i no_widget no_widget.area (omega arith) in
    let second : get_or rects j no_widget.area ≡ (placed_at leaves j).area = get_or-map area_of_leaf leaves j no_widget no_widget.area lt in
    let apart = lie.apart i j no_widget.area less (omega (arith, length-map leaves area_of_leaf)) x y in
    both_cover _ _ (ap (λ (r : Rect). covers r x y) first ∙ here) (ap (λ (r : Rect). covers r x y) second ∙ there) apart

same_leaf : (area : Rect) (leaves : List PlacedData) (x y : ℕ) (a b : Option ℕ) → AreDisjointWithin area (map area_of_leaf leaves) → IsLeafAt leaves x y a → IsLeafAt leaves x y b → b ≡ a
same_leaf area leaves x y (Some i) (Some j) lie p q =
    elim (cases_lt i j) [
      | inl less ↦ absurd (not_both area leaves i j x y lie less q.0 p.1 q.1)
      | inr le ↦ elim (cases_lt j i) [
        | inl less ↦ absurd (not_both area leaves j i x y lie less p.0 q.1 p.1)
        | inr ge ↦ ap (λ (k : ℕ). let found : Option ℕ = Some k in found) (omega arith)
      ]
    ]
same_leaf area leaves x y (Some i) None lie p q = absurd (both_cover _ true p.1 refl (ap (λ (t : Bool). t && true) (q i p.0)))
same_leaf area leaves x y None (Some j) lie p q = absurd (both_cover _ true q.1 refl (ap (λ (t : Bool). t && true) (p j q.0)))
same_leaf area leaves x y None None lie p q = refl

one_found : (x y : ℕ) (input : InputData) (text other : List ℕ) → IsFound x y input text → IsFound x y input other → other ≡ text
one_found x y input text other a b =
    let leaf = same_leaf (screen_area input) (leaves_of input) x y a.0 b.0 (are_disjoint_within (screen_area input) input.root) a.1 b.1 in
    b.2 ∙ ap leaf_line leaf ∙ sym a.2

pub one_output : OutputIsOne
one_output (command.Draw o) input text other a b = one_drawing o input text other a b
one_output (command.At x y) input text other a b = one_found x y input text other a b

-- in both orders the printed screen is what the final widgets draw

both_afresh : (input : InputData) (last other : List PlacedData) (a b : Screen) → AreDrawnFromBlank input last a → AreDrawnFromBlank input other b → AreAlike last other a b
both_afresh input last other a b p q =
    let leaves_now = leaves_after (leaves_of input) input.changes in
    record {
      leaves = q.given.states ∙ (ap (λ (r : Rect). map (placed_after r) leaves_now) (q.blank_first.area_is ∙ sym p.blank_first.area_is) ∙ sym p.given.states);
      screens = same_drawn (screen_area input) leaves_now p.first a q.first b p.blank_first q.blank_first p.given.cells q.given.cells;
    }

pub reverse_is_same : ReverseIsSame
reverse_is_same d input text other reads plain a b =
    let first = prints_afresh order.FirstToLast d input text reads plain a in
    let second = prints_afresh order.LastToFirst d input other reads plain b in
    same_print input order.FirstToLast order.LastToFirst text other a b (both_afresh input a.last b.last a.screen b.screen first second)
