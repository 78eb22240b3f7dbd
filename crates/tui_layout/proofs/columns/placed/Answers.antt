use Rattle.std.proofs.Common.{◌+◌, arith, refl}
use Rattle.tui_layout.proofs.Placing.{placing_end, placing_more}
use Rattle.tui_layout.proofs.columns.placed.Goals as goal

pub placing-preserved : goal.placing-preserved
placing-preserved c =
    placing_more _ _ _ _ _ _ _ _ _ c.taken-taken.result c.weight-weight.result (c.from.result + c.share.result) _ _ _ _ _ _ c.placing.invariant
    c.placing-test.true refl
    c.taken-taken.ensures c.weight-weight.ensures (omega (arith, c.from.ensures, c.share.ensures.share)) (omega (arith, c.cut.ensures, c.shift.ensures.shift))
    c.cut-in-placing.ensures (omega arith) (omega arith) (omega arith) (omega arith) c.in_ok-push.ensures.items

pub returns : goal.returns
returns c = placing_end _ _ _ _ _ _ _ c.placing-test.false c.placing.invariant
