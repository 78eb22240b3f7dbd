use Rattle.std.proofs.Common.{◌≡◌, ◌<◌, ◌∙◌, length, refl, subst, sym, OnOk}
use Rattle.tui_scene.specs.Item.{item_data}
use Rattle.tui_scene.specs.Redraw.{IsFresh, IsReplaced}
use Rattle.tui_scene.specs.Scene.{placed_at}
use Rattle.tui_panes_lib.specs.Draw.{HaveNoShadow}
use Rattle.tui_panes_lib.specs.Panes.{PanesData}
use Rattle.tui_panes_lib.specs.Replace.{item_in_leaf}
use Rattle.tui_panes_lib.proofs.Kept.{rect_is, still_kept}
use Rattle.tui_panes_lib.proofs.ReplacedLeaf.{areas_stay, redrawn_fresh, redrawn_replaced}
use Rattle.tui_panes_lib.proofs.panes.Panes.replace.Goals as goal
use Rattle.tui_panes_lib.specs.Apart.{AreDisjointWithin}

pub invariant_of-self : goal.invariant_of-self
invariant_of-self c =
    let within : c.args.leaf < length c.self.inside.scene = subst (λ (p : PanesData). c.args.leaf < length p.leaves) (sym c.self.view_is) c.requires in
    let same : c.index-area.result.now ≡ (placed_at c.self.inside.scene c.args.leaf).area =
    c.index-area.ensures ∙ rect_is c.self.inside.rects.items c.self.inside.scene c.args.leaf _ c.self.invariant.rects_are within in
    still_kept _ _ _ _ _ _ c.self.invariant
    (areas_stay c.redraw.result c.args.buf.now.area c.self.inside.scene c.redraw.new.scene c.args.leaf _ same c.redraw.ensures.state c.redraw.ensures.err_state) refl

pub returns-clause-replaced : goal.returns-clause-replaced
returns-clause-replaced c plain =
    let within : c.args.leaf < length c.self.inside.scene = subst (λ (p : PanesData). c.args.leaf < length p.leaves) (sym c.self.view_is) c.requires in
    let same : c.index-area.result.now ≡ (placed_at c.self.inside.scene c.args.leaf).area =
    c.index-area.ensures ∙ rect_is c.self.inside.rects.items c.self.inside.scene c.args.leaf _ c.self.invariant.rects_are within in
    subst (λ (p : PanesData). OnOk c.redraw.result
    (IsReplaced p.leaves c.args.leaf (item_in_leaf p.leaves c.args.leaf (item_data c.args.item)) c.args.buf.now c.redraw.new.buf)) c.self.view_is
    (redrawn_replaced c.redraw.result c.self.inside.scene c.args.leaf c.index-area.result.now (item_data c.args.item) _ c.args.buf.now c.redraw.new.buf
    within same plain c.redraw.ensures.ok)

pub returns-clause-fresh : goal.returns-clause-fresh
returns-clause-fresh c plain new_plain fresh =
    let within : c.args.leaf < length c.self.inside.scene = subst (λ (p : PanesData). c.args.leaf < length p.leaves) (sym c.self.view_is) c.requires in
    let same : c.index-area.result.now ≡ (placed_at c.self.inside.scene c.args.leaf).area =
    c.index-area.ensures ∙ rect_is c.self.inside.rects.items c.self.inside.scene c.args.leaf _ c.self.invariant.rects_are within in
    let lie = subst (AreDisjointWithin c.self.inside.area) c.self.invariant.rects_are c.self.invariant.apart in
    redrawn_fresh c.redraw.result c.self.inside.area c.self.inside.scene c.redraw.new.scene c.args.leaf c.index-area.result.now (item_data c.args.item) _
    c.args.buf.now c.redraw.new.buf within same lie (subst (λ (p : PanesData). HaveNoShadow p.leaves) (sym c.self.view_is) plain) new_plain
    (subst (λ (p : PanesData). IsFresh p.leaves c.args.buf.now) (sym c.self.view_is) fresh) c.redraw.ensures.ok c.redraw.ensures.state
