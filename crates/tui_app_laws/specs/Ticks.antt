-- The ticks of a read.
use Rattle.std.specs.Prelude.{◌≡◌, ℕ, ◌<◌, false, List, [], ◌∷◌, ◌++◌, length}
use Rattle.tui_app.specs.EventLoop.{events_of_read, without_ticks}
use Rattle.tui_app.specs.Trace.{read_capacity}
use Rattle.tui_keys.specs.Events.{keys_after}
use Rattle.tui_keys.specs.declared.event.Event.TheVariants.{Tick}
use Rattle.tui_keys.specs.declared.keys.KeyDecoder.{KeyDecoder}

-- With a NUL between any bytes of a read, outside of pastes, the app gets the events that are no ticks as without it, and
-- then one tick. The read isn't full, since bytes may stay pending after a full one.
abbrev pub TicksAreOne : Type 0
TicksAreOne = (keys : KeyDecoder) (a b : List ℕ) → (keys_after keys a).pasting ≡ false → length (a ++ 0 ∷ b) < read_capacity →
    events_of_read keys (a ++ 0 ∷ b) ≡ without_ticks (events_of_read keys (a ++ b)) ++ Tick ∷ []
