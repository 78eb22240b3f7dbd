-- Laws: terminal events, decoder states and decoder steps that `==` calls equal are the same.
use Rattle.std.specs.Prelude.{◌≡◌, Bool, true, Option, Some, None, refl}
use Rattle.std.specs.contracts.prelude.OptionPartialEq as options
use Rattle.std.proofs.Common.{rules}
use Rattle.std.proofs.lemmas.Bool.{and_parts}
use Rattle.tui_keys.specs.contracts.event.Event as event_type
use Rattle.tui_keys.specs.contracts.event.EventPartialEq as event
use Rattle.tui_keys.specs.contracts.event.ModifiersPartialEq as modifiers
use Rattle.tui_keys.specs.contracts.event.MotionPartialEq as motion
use Rattle.tui_keys.specs.contracts.keys.KeyDecoderPartialEq as keys
use Rattle.tui_keys.specs.contracts.keys.PendingPartialEq as pending
use Rattle.tui_keys.specs.contracts.keys.DecodedPartialEq as step
use Rattle.tui_keys.specs.declared.event.Event.{Event}
use Rattle.tui_keys.specs.declared.event.Event.TheVariants.{With}
use Rattle.tui_keys.specs.declared.event.Modifiers.{Modifiers}
use Rattle.tui_keys.specs.declared.event.Motion.{Motion}
use Rattle.tui_keys.specs.declared.keys.KeyDecoder.{KeyDecoder}
use Rattle.tui_keys.specs.declared.keys.Pending.{Pending}
use Rattle.tui_keys.specs.declared.keys.Decoded.{Decoded}

same_modifiers : (a b : Modifiers) → modifiers.TheImpl.ghosts.eq a b ≡ true → a ≡ b
same_modifiers a b e = Prim.search rules

same_motion : (a b : Motion) → motion.TheImpl.ghosts.eq a b ≡ true → a ≡ b
same_motion a b e = Prim.search rules

-- events that `==` calls equal are the same
pub same_event : (a b : Event) → event.TheImpl.ghosts.eq a b ≡ true → a ≡ b
same_event (With m k) (With n l) e =
    let both = and_parts (modifiers.TheImpl.ghosts.eq m n) _ e in
    Prim.search (rules, same_modifiers m n both.0, same_motion k l both.1)
same_event a b e = Prim.search rules

same_pending : (a b : Pending) → pending.TheImpl.ghosts.eq a b ≡ true → a ≡ b
same_pending a b e = Prim.search rules

-- so are decoder states
pub same_keys : (a b : KeyDecoder) → keys.TheImpl.ghosts.eq a b ≡ true → a ≡ b
same_keys a b e =
    let both = and_parts _ (pending.TheImpl.ghosts.eq a.pending b.pending) e in
    Prim.search (rules, both.0, same_pending a.pending b.pending both.1)

abbrev eq_events : Option Event → Option Event → Bool
eq_events a b = (options.TheImpl.ghosts event_type.the_row event.TheImpl.ghosts event.TheImpl.dict).eq a b

same_events : (a b : Option Event) → eq_events a b ≡ true → a ≡ b
same_events None None e = refl
same_events None (Some y) e = Prim.search (rules, e)
same_events (Some x) None e = Prim.search (rules, e)
same_events (Some x) (Some y) e = Prim.search (rules, same_event x y e)

-- and the results of decoding a byte
pub same_step : (a b : Decoded) → step.TheImpl.ghosts.eq a b ≡ true → a ≡ b
same_step a b e =
    let first = and_parts (keys.TheImpl.ghosts.eq a.keys b.keys) _ e in
    let second = and_parts (eq_events a.first b.first) _ first.1 in
    Prim.search (rules, same_keys a.keys b.keys first.0, same_events a.first b.first second.0, same_events a.second b.second second.1)
