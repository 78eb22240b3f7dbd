use Rattle.std.proofs.Common.{ap, ◌∙◌}
use Rattle.tui_browse_lib.proofs.Pressing.{once_more}
use Rattle.tui_browse_lib.proofs.paging.press_often.Goals as goal
use Rattle.tui_pager_lib.specs.Laws.{after_call, press}
use Rattle.tui_pager_lib.specs.Pager.{PagerData}

pub presses-preserved : goal.presses-preserved
presses-preserved c =
    c.in_ok-key.ensures.ok ∙ (ap (λ (p : PagerData). after_call p (press c.args.key)) c.presses.invariant
    ∙ once_more c.args.pager.now (press c.args.key) c.presses._i)
