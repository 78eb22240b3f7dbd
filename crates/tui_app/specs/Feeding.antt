-- The events of a read, byte by byte.
use Rattle.std.specs.List.{list_any}
use Rattle.std.specs.Prelude.{◌≡◌, false, ◌||◌, List, None}
use Rattle.tui_app.specs.Behaviour.{Behaviour}
use Rattle.tui_app.specs.EventLoop.{Takes, is_tick, last_size, without_ticks}
use Rattle.tui_app.specs.declared.app.Flow.TheVariants.{Go}
use Rattle.tui_app.specs.declared.feed.Handled.{Handled}
use Rattle.tui_app.specs.declared.feed.PartOfRead.{PartOfRead}
use Rattle.tui_app.specs.declared.feed.Reaction.{Reaction}
use Rattle.tui_app.specs.declared.feed.AfterRead.{AfterRead}
use Rattle.tui_keys.specs.declared.event.Event.{Event}
use Rattle.tui_keys.specs.declared.keys.KeyDecoder.{KeyDecoder}

-- events are handled, unless an earlier one quit
pub record HandlesEvents {A : Type 0} (b : Behaviour A) (old : A) (reaction : Reaction) (es : List Event) (new : A) (next : Reaction) : Type 0 where
  pub takes : Takes b old reaction.flow es new next.flow
  pub size : next.size ≡ last_size reaction.size es

-- before any event
abbrev pub no_reaction : Reaction
no_reaction = record { flow = Go; size = None }

-- events are handled, and this is pending afterwards
pub record HandlesBytes {A : Type 0} (b : Behaviour A) (old : A) (reaction : Reaction) (es : List Event)
    (keys : KeyDecoder) (new : A) (reading : AfterRead) : Type 0 where
  pub handled : HandlesEvents b old reaction es new reading.reaction
  pub keys_are : reading.keys ≡ keys

-- events that are no tick are handled, and it is noted whether there was a tick
pub record HandlesButTicks {A : Type 0} (b : Behaviour A) (old : A) (before : Handled) (es : List Event) (new : A) (next : Handled) : Type 0 where
  pub handled : HandlesEvents b old before.reaction (without_ticks es) new next.reaction
  pub ticked : next.ticked ≡ (before.ticked || list_any is_tick es)

-- before any event
abbrev pub none_handled : Handled
none_handled = record { reaction = no_reaction; ticked = false }

-- the same, and this is pending afterwards
pub record HandlesPart {A : Type 0} (b : Behaviour A) (old : A) (before : Handled) (es : List Event)
    (keys : KeyDecoder) (new : A) (part : PartOfRead) : Type 0 where
  pub handled : HandlesButTicks b old before es new part.handled
  pub keys_are : part.keys ≡ keys
