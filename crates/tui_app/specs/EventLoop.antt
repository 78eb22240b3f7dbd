-- The event loop of an app: for each read, the app handles its events and then draws.
use Rattle.std.specs.List.{list_any}
use Rattle.std.specs.Prelude.{◌≡◌, ◌≢◌, ℕ, nat_lt, Bool, true, false, not, List, [], ◌∷◌, ◌++◌, filter, length, Option, None, Some, if◌then◌else◌}
use Rattle.tui_app.specs.Behaviour.{Behaviour}
use Rattle.tui_app.specs.Trace.{IsRead, read_capacity}
use Rattle.tui_app.specs.declared.app.Flow.{Flow}
use Rattle.tui_app.specs.declared.app.Flow.TheVariants.{Go, Quit}
use Rattle.tui_cells.specs.declared.size.Size.{Size}
use Rattle.tui_cells.specs.Buffer.{Screen}
use Rattle.tui_cells.specs.Rect.{area_of}
use Rattle.tui_cells.specs.declared.position.Position.{Position}
use Rattle.tui_cells.specs.declared.rect.Rect.{Rect}
use Rattle.tui_keys.specs.Events.{events_of, events_of_short_read, keys_after, keys_after_short_read}
use Rattle.tui_keys.specs.Steps.{start}
use Rattle.tui_keys.specs.declared.event.Event.{Event}
use Rattle.tui_keys.specs.declared.event.Event.TheVariants.{Resize, Tick}
use Rattle.tui_keys.specs.declared.keys.KeyDecoder.{KeyDecoder}

-- ---- what is read

-- What the bytes of a read decode to. After a full read more bytes may be available, so what has begun stays pending.
abbrev pub decoded_of_read : KeyDecoder → List ℕ → List Event
decoded_of_read keys bytes = if nat_lt (length bytes) read_capacity then events_of_short_read keys bytes else events_of keys bytes

abbrev pub is_tick : Event → Bool
is_tick Tick = true
is_tick event = false

abbrev pub without_ticks : List Event → List Event
without_ticks es = filter (λ e. not (is_tick e)) es

-- the other events, and then one tick if there was any
abbrev pub ticks_last : List Event → List Event
ticks_last es = without_ticks es ++ (if list_any is_tick es then Tick ∷ [] else [])

-- The events that a read gives to the app. However many ticks have piled up, the app gets one.
abbrev pub events_of_read : KeyDecoder → List ℕ → List Event
events_of_read keys bytes = ticks_last (decoded_of_read keys bytes)

abbrev pub keys_after_read : KeyDecoder → List ℕ → KeyDecoder
keys_after_read keys bytes = if nat_lt (length bytes) read_capacity then keys_after_short_read keys bytes else keys_after keys bytes

-- the last size among events
abbrev pub sized : Option Size → Event → Option Size
sized size (Resize width height) = Some (record { width = width; height = height })
sized size _ = size

abbrev pub last_size : Option Size → List Event → Option Size
last_size size [] = size
last_size size (e ∷ es) = last_size (sized size e) es

abbrev pub size_of_read : KeyDecoder → List ℕ → Option Size
size_of_read keys bytes = last_size None (events_of_read keys bytes)

-- ---- what the app does

-- how it goes on after two events
abbrev pub joined : Flow → Flow → Flow
joined first Go = first
joined first second = second

-- An app handles events in order, up to one that quits. The events after it are ignored.
abbrev pub Takes : {A : Type 0} → Behaviour A → A → Flow → List Event → A → Flow → Type 0
Takes b old Quit es new last = (new ≡ old) × (last ≡ Quit)
Takes b old flow [] new last = (new ≡ old) × (last ≡ flow)
Takes {A} b old flow (e ∷ es) new last = (next : A) × (step : Flow) × b.steps old e next step × Takes b next (joined flow step) es new last

-- The state of the loop while it waits for input: the app, the state of the key decoder, the screen that was drawn, and
-- the position at which the cursor is shown.
pub record LoopState (A : Type 0) : Type 0 where
  pub app : A
  pub keys : KeyDecoder
  pub screen : Screen
  pub place : Option Position

-- the first screen
pub record IsFirstState {A : Type 0} (b : Behaviour A) (begin : A) (area : Rect) (new : LoopState A) : Type 0 where
  pub draws : b.draws begin new.screen new.place new.app
  pub area_is : new.screen.area ≡ area
  pub keys : new.keys ≡ start

abbrev pub area_after : Rect → Option Size → Rect
area_after area None = area
area_after area (Some size) = area_of 0 0 size.width size.height

-- one read: the app handled its events, did not quit, and drew at the last reported size
pub record IsIteration {A : Type 0} (b : Behaviour A) (old : LoopState A) (bytes : List ℕ) (flow : Flow) (new : LoopState A) : Type 0 where
  pub moved : A
  pub read : IsRead bytes
  pub takes : Takes b old.app Go (events_of_read old.keys bytes) moved flow
  pub not_quit : flow ≢ Quit
  pub keys : new.keys ≡ keys_after_read old.keys bytes
  pub draws : b.draws moved new.screen new.place new.app
  pub area_is : new.screen.area ≡ area_after old.screen.area (size_of_read old.keys bytes)

-- The app drew. Then for each of these reads it handled the events and drew.
pub data EventLoop {A : Type 0} (b : Behaviour A) (begin : A) (area : Rect) : List (List ℕ) → LoopState A → Type 0 where
  drew : (first : LoopState A) → IsFirstState b begin area first → EventLoop b begin area [] first
  iterated : (reads : List (List ℕ)) (bytes : List ℕ) (flow : Flow) (old new : LoopState A) →
      EventLoop b begin area reads old → IsIteration b old bytes flow new
      → EventLoop b begin area (reads ++ bytes ∷ []) new
