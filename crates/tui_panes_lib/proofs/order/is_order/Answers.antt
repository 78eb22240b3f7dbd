use Rattle.std.proofs.Common.{refl, arith}
use Rattle.tui_panes_lib.proofs.Marked.{decided}
use Rattle.tui_panes_lib.proofs.order.is_order.Goals as goal

pub returns-then-mark_each-clause-is : goal.returns-then-mark_each-clause-is
returns-then-mark_each-clause-is c =
    decided _ c.args.order.now _ _ _ refl refl (omega (arith, c.mark_each.ensures.same_length, c.fill.ensures.len)) c.contains.ensures.value (c.mark_each.ensures.marked c.if-mark_each.true)
