use Rattle.std.proofs.Common.{arith}
use Rattle.tui_pages_lib.proofs.Keeping.{page_ended, ended_is}
use Rattle.tui_pages_lib.proofs.filling.Filling.end_page.Goals as goal

pub invariant_of-self-2 : goal.invariant_of-self-2
invariant_of-self-2 c = ended_is c.self.inside.pieces.items _ _ _ _ c.self.invariant.in_order c.self.invariant.inside c.in_ok-push.ensures.items (omega (arith, c.len-count.ensures))

pub returns : goal.returns
returns c = page_ended c.self.inside.pieces.items _ _ _ _ _ c.self.view_is c.self.invariant.in_order c.in_ok-push.ensures.items (omega (arith, c.len-count.ensures))
