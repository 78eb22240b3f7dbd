-- The events of bytes.
use Rattle.std.specs.Prelude.{ℕ, List, [], ◌∷◌, ◌++◌, Option, None, Some}
use Rattle.tui_keys.specs.declared.event.Event.{Event}
use Rattle.tui_keys.specs.declared.keys.KeyDecoder.{KeyDecoder}
use Rattle.tui_keys.specs.declared.keys.Decoded.{Decoded}
use Rattle.tui_keys.specs.Steps.{paused, stepped}

abbrev pub some_of : Option Event → List Event
some_of None = []
some_of (Some event) = event ∷ []

-- the events of a step, in order
abbrev pub events_in : Decoded → List Event
events_in s = some_of s.first ++ some_of s.second

-- The events of bytes, and the state of the decoder after them.
unfoldable pub events_of : KeyDecoder → List ℕ → List Event
events_of keys [] = []
events_of keys (b ∷ bs) = events_in (stepped keys b) ++ events_of (stepped keys b).keys bs

unfoldable pub keys_after : KeyDecoder → List ℕ → KeyDecoder
keys_after keys [] = keys
keys_after keys (b ∷ bs) = keys_after (stepped keys b).keys bs

-- the events of a short read: one that returned fewer bytes than it had room for, so nothing more has come yet
unfoldable pub events_of_short_read : KeyDecoder → List ℕ → List Event
events_of_short_read keys bs = events_of keys bs ++ events_in (paused (keys_after keys bs))

unfoldable pub keys_after_short_read : KeyDecoder → List ℕ → KeyDecoder
keys_after_short_read keys bs = (paused (keys_after keys bs)).keys
