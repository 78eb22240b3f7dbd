use Rattle.std.proofs.Common.{◌≡◌, ◌+◌, ◌++◌, ◌∷◌, [], List, drop, map, ap, ◌∙◌}
use Rattle.tui_pager_run.specs.Input.{step_call}
use Rattle.tui_pager_run.specs.States.{states_after}
use Rattle.tui_pager_run.proofs.Stepping.{next_call, no_call, pager_on, states_end, states_on}
use Rattle.tui_pager_run.proofs.run.step_through.Goals as goal
use Rattle.tui_pager_lib.specs.declared.state.PagerState.{PagerState}

pub steps-preserved : goal.steps-preserved
steps-preserved c =
    let steps = c.args.steps.now in
    let step = c.index-steps-i.result in
    let next_pager = c.make.new.pager in
    let rest = drop (c.steps.i + 1) (map step_call steps) in
    let next = next_call steps c.steps.i step step c.steps-test.true c.index-steps-i.is in
    let pushed : c.push-in-steps.new.self.items ≡ c.steps.states.items ++ next_pager.state ∷ [] =
    c.in_ok-push-2.ensures.items ∙ ap (λ (s : PagerState). c.steps.states.items ++ s ∷ []) c.state-in-steps.ensures.is in (
      pager_on c.steps.pager next_pager _ (step_call step) _ rest next c.in_ok-make.ensures c.steps.invariant.0,
      ap (λ (ss : List PagerState). ss ++ states_after next_pager rest) pushed
          ∙ states_on c.steps.pager next_pager c.steps.states.items _ (step_call step) _ rest next c.in_ok-make.ensures c.steps.invariant.1,
    )

pub returns-clause-states : goal.returns-clause-states
returns-clause-states c = states_end c.steps.pager c.steps.states.items _ _ (no_call c.args.steps.now c.steps.i c.steps-test.false) c.steps.invariant.1
