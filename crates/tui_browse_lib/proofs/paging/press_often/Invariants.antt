use Rattle.std.proofs.Common.{◌≡◌, replicate}
use Rattle.tui_browse_lib.proofs.paging.press_often.Given as goal
use Rattle.tui_pager_lib.specs.Laws.{after_calls, press}

abbrev pub invariant-presses : goal.invariant-presses
invariant-presses l = l.pager ≡ after_calls l.fn.pager (replicate l._i (press l.key))
