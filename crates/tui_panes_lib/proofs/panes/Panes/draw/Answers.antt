use Rattle.std.proofs.Common.{◌∙◌, ap, arith, length, subst, sym, OnOk}
use Rattle.tui_scene.specs.Laws.{Draws}
use Rattle.tui_scene.specs.Redraw.{IsOrder}
use Rattle.tui_panes_lib.specs.Draw.{HaveNoShadow, in_order}
use Rattle.tui_panes_lib.specs.Panes.{PanesData}
use Rattle.tui_panes_lib.proofs.Kept.{marks_back, still_kept}
use Rattle.tui_panes_lib.proofs.Leaves.{draws_any, draws_fresh, draws_in_order}
use Rattle.tui_panes_lib.proofs.panes.Panes.draw.Goals as goal
use Rattle.tui_panes_lib.specs.Apart.{AreDisjointWithin}

pub invariant_of-self-2 : goal.invariant_of-self-2
invariant_of-self-2 c =
    still_kept _ _ _ _ _ _ c.self.invariant c.draw_leaves.ensures.areas
    (marks_back c.self.inside.marks.items c.is_order.new.marks c.self.inside.marks.len (omega arith)
    (c.is_order.ensures.same_length ∙ ap length c.deref_mut.ensures.value))

pub returns-clause-given : goal.returns-clause-given
returns-clause-given c =
    let order = c.args.order.now in
    let is : IsOrder (length c.self.inside.scene) order =
    subst (λ n. IsOrder n order) (ap length c.deref_mut.ensures.value ∙ c.self.invariant.same_length) (c.is_order.ensures.is.0 c.if-not-is_order.false) in
    subst (λ (p : PanesData). OnOk c.draw_leaves.result (Draws (in_order order p.leaves) (in_order order c.draw_leaves.new.scene) c.args.buf.now c.draw_leaves.new.buf))
    c.self.view_is
    (draws_in_order c.draw_leaves.result order c.self.inside.scene c.draw_leaves.new.scene c.args.buf.now c.draw_leaves.new.buf is
    c.draw_leaves.ensures.ok c.draw_leaves.ensures.states)

pub returns-clause-any : goal.returns-clause-any
returns-clause-any c plain =
    let order = c.args.order.now in
    let is : IsOrder (length c.self.inside.scene) order =
    subst (λ n. IsOrder n order) (ap length c.deref_mut.ensures.value ∙ c.self.invariant.same_length) (c.is_order.ensures.is.0 c.if-not-is_order.false) in
    let lie = subst (AreDisjointWithin c.self.inside.area) c.self.invariant.rects_are c.self.invariant.apart in
    subst (λ (p : PanesData). OnOk c.draw_leaves.result (Draws p.leaves c.draw_leaves.new.scene c.args.buf.now c.draw_leaves.new.buf))
    c.self.view_is
    (draws_any c.draw_leaves.result c.self.inside.area order c.self.inside.scene c.draw_leaves.new.scene c.args.buf.now c.draw_leaves.new.buf is lie
    (subst (λ (p : PanesData). HaveNoShadow p.leaves) (sym c.self.view_is) plain) c.draw_leaves.ensures.ok c.draw_leaves.ensures.states)

pub returns-clause-fresh : goal.returns-clause-fresh
returns-clause-fresh c plain filled =
    draws_fresh c.draw_leaves.result c.args.self.now.leaves c.draw_leaves.new.scene c.args.buf.now c.draw_leaves.new.buf filled
    (returns-clause-any c plain)
