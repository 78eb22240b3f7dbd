use Rattle.std.proofs.Common.{◌≡◌, ◌++◌, drop, map}
use Rattle.tui_pager_run.specs.Input.{step_call}
use Rattle.tui_pager_run.specs.States.{states_after, states_of}
use Rattle.tui_pager_lib.specs.Laws.{after_calls}
use Rattle.tui_pager_run.proofs.run.step_through.Given as goal

abbrev pub invariant-steps : goal.invariant-steps
invariant-steps l =
    let calls = map step_call l.steps in
    let rest = drop l.i calls in
    (after_calls l.pager rest ≡ after_calls l.fn.pager calls) × (l.states.items ++ states_after l.pager rest ≡ states_of l.fn.pager calls)
