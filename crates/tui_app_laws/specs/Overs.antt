-- The screens of an app over reads, and those of a session.
use Rattle.std.specs.Prelude.{◌≡◌, ◌↔◌, ℕ, ◌+◌, List, [], ◌∷◌, ◌++◌, length}
use Rattle.tui_app.specs.Behaviour.{Behaviour}
use Rattle.tui_app.specs.EventLoop.{EventLoop, LoopState}
use Rattle.tui_app.specs.Over.{DrawsOver}
use Rattle.tui_cells.specs.Buffer.{Screen}
use Rattle.tui_cells.specs.declared.rect.Rect.{Rect}

-- the event loop reaches a state after these reads exactly if there are screens of these reads that end in this state
abbrev pub OverMatchesEventLoop : {A : Type 0} → Behaviour A → Type 0
OverMatchesEventLoop {A} b = (begin : A) (area : Rect) (reads : List (List ℕ)) (state : LoopState A) →
    EventLoop b begin area reads state ↔ ((screens : List Screen) × DrawsOver b begin area reads state screens)

-- there is one more screen than there are reads, and the last one is the screen of the state that waits
pub record EndsAt (screen : Screen) (count : ℕ) (screens : List Screen) : Type 0 where
  pub counted : length screens ≡ count + 1
  pub earlier : List Screen
  pub last : screens ≡ earlier ++ screen ∷ []

abbrev pub OverEndsThere : {A : Type 0} → Behaviour A → Type 0
OverEndsThere {A} b = (begin : A) (area : Rect) (reads : List (List ℕ)) (state : LoopState A) (screens : List Screen) →
    DrawsOver b begin area reads state screens → EndsAt state.screen (length reads) screens
