-- What an app draws over a list of reads.
use Rattle.std.specs.Prelude.{◌≡◌, ◌⊎◌, ℕ, List, [], ◌∷◌, ◌++◌, Option, None, Some}
use Rattle.tui_app.specs.Behaviour.{Behaviour}
use Rattle.tui_app.specs.EventLoop.{IsFirstState, IsIteration, LoopState, Takes, events_of_read}
use Rattle.tui_app.specs.Trace.{IsRead}
use Rattle.tui_app.specs.declared.app.Flow.{Flow}
use Rattle.tui_app.specs.declared.app.Flow.TheVariants.{Go, Quit}
use Rattle.tui_app.specs.declared.over.LastDrawn.{LastDrawn}
use Rattle.tui_cells.specs.Buffer.{Screen}
use Rattle.tui_cells.specs.Rect.{area_of}
use Rattle.tui_cells.specs.declared.rect.Rect.{Rect}

-- the screens that the event loop draws: the first one, and one for each read
pub data DrawsOver {A : Type 0} (b : Behaviour A) (begin : A) (area : Rect) : List (List ℕ) → LoopState A → List Screen → Type 0 where
  draws_first : (first : LoopState A) → IsFirstState b begin area first → DrawsOver b begin area [] first (first.screen ∷ [])
  draws_next : (reads : List (List ℕ)) (bytes : List ℕ) (flow : Flow) (old new : LoopState A)
      (screens : List Screen) → DrawsOver b begin area reads old screens
      → IsIteration b old bytes flow new → DrawsOver b begin area (reads ++ bytes ∷ []) new (screens ++ new.screen ∷ [])

-- this read quits; or it has no byte or too many, and ends the session
abbrev pub IsLast : {A : Type 0} → Behaviour A → LoopState A → List ℕ → A → Type 0
IsLast b s bytes last = (IsRead bytes × Takes b s.app Go (events_of_read s.keys bytes) last Quit) ⊎ ((IsRead bytes → ⊥) × (last ≡ s.app))

-- no read is left, or the next one is the last
abbrev pub IsOver : {A : Type 0} → Behaviour A → LoopState A → List (List ℕ) → A → Type 0
IsOver b s [] last = last ≡ s.app
IsOver b s (bytes ∷ rest) last = IsLast b s bytes last

-- an app ran over these reads, up to the end of its session
pub record RunsOver {A : Type 0} (b : Behaviour A) (begin : A) (area : Rect) (reads : List (List ℕ)) (screens : List Screen) (last : A) : Type 0 where
  pub taken : List (List ℕ)
  pub left : List (List ℕ)
  pub reads_are : reads ≡ taken ++ left
  pub state : LoopState A
  pub draws : DrawsOver b begin area taken state screens
  pub over : IsOver b state left last

-- ---- its parts

abbrev pub state_at : {A : Type 0} → A → LastDrawn → LoopState A
state_at app s = record { app = app; keys = s.keys; screen = s.shown; place = s.place }

abbrev pub IsSized : LastDrawn → Type 0
IsSized s = s.shown.area ≡ area_of 0 0 s.size.width s.size.height

-- the result of one read: the app drew a screen and the one before is returned, or the session ends
abbrev pub IteratesOver : {A : Type 0} → Behaviour A → LoopState A → List ℕ → LoopState A → Option Screen → Type 0
IteratesOver b old bytes new None = IsLast b old bytes new.app × (new.screen ≡ old.screen)
IteratesOver b old bytes new (Some screen) = (flow : Flow) × IsIteration b old bytes flow new × (screen ≡ old.screen)
