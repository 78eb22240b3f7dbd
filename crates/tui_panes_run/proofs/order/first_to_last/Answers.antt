use Rattle.std.proofs.Common.{Ok, refl, arith}
use Rattle.std.proofs.lemmas.Iterator.{items_from_collect, YieldsList-from_range}
use Rattle.tui_panes_run.proofs.order.first_to_last.Goals as goal

pub returns : goal.returns
returns c = items_from_collect {E = Unit {0}} (Ok c.in_ok-collect.field-0) c.in_ok-collect.ensures.ran (YieldsList-from_range 0 c.args.count c.args.count refl (omega arith))
