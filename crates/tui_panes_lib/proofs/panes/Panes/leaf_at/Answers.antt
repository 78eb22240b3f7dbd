use Rattle.std.proofs.Common.{◌≡◌, ℕ, ◌<◌, All, false, get_or, length, subst, true, Some, List}
use Rattle.std.specs.Prelude.{◌↔◌, IfNone, IfSome}
use Rattle.tui_cells.specs.declared.rect.Rect.{Rect}
use Rattle.tui_cells.specs.Rect.{covers}
use Rattle.tui_scene.specs.Scene.{placed_at}
use Rattle.tui_panes_lib.specs.Panes.{PanesData}
use Rattle.tui_panes_lib.proofs.Kept.{leaf_found}
use Rattle.tui_panes_lib.proofs.panes.Panes.leaf_at.Goals as goal

pub returns : goal.returns
returns c =
    let x = c.args.p.x in
    let y = c.args.p.y in
    let some = subst (λ (rs : List Rect). IfSome c.first_at.result (λ i. (i < length rs) × ((d : Rect) → covers (get_or rs i d) x y ≡ true)))
    c.deref.ensures.value c.first_at.ensures.some in
    let none = subst (λ (rs : List Rect). IfNone c.first_at.result (All (λ r. covers r x y ≡ false) rs)) c.deref.ensures.value c.first_at.ensures.none in
    subst (λ (p : PanesData). (i : ℕ) → (c.first_at.result ≡ Some i) ↔ ((i < length p.leaves) × (covers (placed_at p.leaves i).area x y ≡ true)))
    c.self.view_is (leaf_found c.self.inside.area c.self.inside.rects.items c.self.inside.marks.items c.self.inside.scene x y c.first_at.result c.self.invariant some none)
