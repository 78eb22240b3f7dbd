-- `run_over` draws the screens of a session.
use Rattle.std.proofs.Common.{ℕ, List, [], ◌∷◌, ◌++◌, refl, arith}
use Rattle.std.proofs.lemmas.List.{length-append}
use Rattle.tui_app.specs.Behaviour.{Behaviour}
use Rattle.tui_app.specs.EventLoop.{EventLoop, LoopState, drew, iterated}
use Rattle.tui_app.specs.Over.{DrawsOver, draws_first, draws_next}
use Rattle.tui_app_laws.specs.Overs.{OverEndsThere, OverMatchesEventLoop}
use Rattle.tui_cells.specs.Buffer.{Screen}
use Rattle.tui_cells.specs.declared.rect.Rect.{Rect}

-- some screens of the event loop
record Draws {A : Type 0} (b : Behaviour A) (begin : A) (area : Rect) (reads : List (List ℕ)) (state : LoopState A) : Type 0 where
  screens : List Screen
  draws : DrawsOver b begin area reads state screens

draws_as : {A : Type 0} (b : Behaviour A) (begin : A) (area : Rect) (reads : List (List ℕ)) (state : LoopState A) → EventLoop b begin area reads state →
    Draws b begin area reads state
draws_as b begin area _ _ (drew first is) = record { screens = first.screen ∷ []; draws = draws_first first is }
draws_as b begin area _ _ (iterated reads bytes flow old new event_loop iteration) =
    let was = draws_as b begin area reads old event_loop in
    record { screens = was.screens ++ new.screen ∷ []; draws = draws_next reads bytes flow old new was.screens was.draws iteration }

lives_as : {A : Type 0} (b : Behaviour A) (begin : A) (area : Rect) (reads : List (List ℕ)) (state : LoopState A) (screens : List Screen) →
    DrawsOver b begin area reads state screens → EventLoop b begin area reads state
lives_as b begin area _ _ _ (draws_first first is) = drew first is
lives_as b begin area _ _ _ (draws_next reads bytes flow old new screens draws iteration) =
    iterated reads bytes flow old new (lives_as b begin area reads old screens draws) iteration

pub over_matches_event_loop : {A : Type 0} (b : Behaviour A) → OverMatchesEventLoop b
over_matches_event_loop b begin area reads state = (
  λ event_loop. let found = draws_as b begin area reads state event_loop in (found.screens, found.draws),
  λ found. lives_as b begin area reads state found.0 found.1,
)

pub over_ends : {A : Type 0} (b : Behaviour A) → OverEndsThere b
over_ends b begin area _ _ _ (draws_first first is) = record { counted = refl; earlier = []; last = refl }
over_ends b begin area _ _ _ (draws_next reads bytes flow old new screens draws iteration) =
    let was = over_ends b begin area reads old screens draws in
    record {
      counted = omega (arith, was.counted, length-append screens (new.screen ∷ []), length-append reads (bytes ∷ []));
      earlier = screens;
      last = refl;
    }
