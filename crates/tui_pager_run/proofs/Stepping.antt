-- One call after another.
use Rattle.std.proofs.Common.{◌≡◌, ℕ, ◌+◌, ◌<◌, ◌≤◌, List, [], ◌∷◌, ◌++◌, length, map, get_or, drop, refl, sym, ap, ◌∙◌, subst, add-one, append_assoc}
use Rattle.std.proofs.lemmas.List.{append-nil, drop_all, get_or-map, length-map}
use Rattle.std.proofs.Math.Seq.{drop-cons}
use Rattle.tui_pager_run.specs.Input.{step_call}
use Rattle.tui_pager_run.specs.States.{states_after}
use Rattle.tui_pager_run.specs.declared.step.PagerStep.{PagerStep}
use Rattle.tui_pager_lib.specs.Laws.{Call, after_call, after_calls}
use Rattle.tui_pager_lib.specs.Pager.{PagerData}
use Rattle.tui_pager_lib.specs.declared.state.PagerState.{PagerState}

-- the next call, and those after it
pub next_call : (steps : List PagerStep) (i : ℕ) (step d : PagerStep) → i < length steps → step ≡ get_or steps i d →
    drop i (map step_call steps) ≡ step_call step ∷ drop (i + 1) (map step_call steps)
next_call steps i step d lt at =
    let within : i < length (map step_call steps) = rw (length-map steps step_call) lt in
    let here : get_or (map step_call steps) i (step_call step) ≡ step_call step = get_or-map step_call steps i d (step_call step) lt ∙ sym (ap step_call at) in
    rw (add-one, drop-cons (map step_call steps) i (step_call step) within, here) refl

pub no_call : (steps : List PagerStep) (i : ℕ) → length steps ≤ i → drop i (map step_call steps) ≡ []
no_call steps i le = drop_all i (map step_call steps) (rw (length-map steps step_call) le)

-- the calls that remain for a pager after one more
pub pager_on : (p q all : PagerData) (call : Call) (calls rest : List Call) → calls ≡ call ∷ rest → q ≡ after_call p call →
    after_calls p calls ≡ all → after_calls q rest ≡ all
pager_on p q all call calls rest next moved done = rw moved (subst (λ (cs : List Call). after_calls p cs ≡ all) next done)

pub states_on : (p q : PagerData) (before all : List PagerState) (call : Call) (calls rest : List Call) → calls ≡ call ∷ rest → q ≡ after_call p call →
    before ++ states_after p calls ≡ all → (before ++ q.state ∷ []) ++ states_after q rest ≡ all
unfolding states_after
states_on p q before all call calls rest next moved done =
    rw moved (append_assoc before ((after_call p call).state ∷ []) (states_after (after_call p call) rest)
    ∙ subst (λ (cs : List Call). before ++ states_after p cs ≡ all) next done)

pub states_end : (p : PagerData) (before all : List PagerState) (calls : List Call) → calls ≡ [] → before ++ states_after p calls ≡ all → before ≡ all
unfolding states_after
states_end p before all calls none done =
    sym (append-nil before) ∙ subst (λ (cs : List Call). before ++ states_after p cs ≡ all) none done
