-- The events of a read, byte by byte.
use Rattle.std.proofs.Common.{◌≡◌, ℕ, ◌+◌, ◌<◌, Bool, true, false, not, ◌||◌, nat_lt, List, [], ◌∷◌, ◌++◌, length, take, get_or, Option, None, Result, Ok, Err, IfOk, if◌then◌else◌, refl, sym, ap, subst, ◌∙◌}
use Rattle.std.proofs.lemmas.Bool.{cond-true, lt-ltb}
use Rattle.std.proofs.lemmas.List.Elements.{filter-append}
use Rattle.std.proofs.lemmas.List.Folds.{list_any-append}
use Rattle.std.proofs.lemmas.List.{append-nil, take_more}
use Rattle.tui_app.specs.Behaviour.{Behaviour}
use Rattle.std.specs.List.{list_any}
use Rattle.tui_app.specs.Feeding.{HandlesBytes, HandlesButTicks, HandlesEvents, HandlesPart, no_reaction, none_handled}
use Rattle.tui_app.specs.EventLoop.{Takes, decoded_of_read, events_of_read, is_tick, joined, keys_after_read, last_size, sized, without_ticks}
use Rattle.tui_app.specs.Trace.{read_capacity}
use Rattle.tui_app.specs.declared.app.Flow.{Flow}
use Rattle.tui_app.specs.declared.app.Flow.TheVariants.{Go, Redraw, Quit}
use Rattle.tui_app.specs.declared.feed.AfterRead.{AfterRead}
use Rattle.tui_app.specs.declared.feed.Handled.{Handled}
use Rattle.tui_app.specs.declared.feed.PartOfRead.{PartOfRead}
use Rattle.tui_app.specs.declared.feed.Reaction.{Reaction}
use Rattle.tui_cells.specs.declared.size.Size.{Size}
use Rattle.tui_keys.proofs.Decoding.{one_piece}
use Rattle.tui_keys.specs.Events.{events_of, events_of_short_read, keys_after, keys_after_short_read, events_in}
use Rattle.tui_keys.specs.Steps.{paused, stepped}
use Rattle.tui_keys.specs.declared.event.Event.{Event}
use Rattle.tui_keys.specs.declared.event.Event.TheVariants.{Tick}
use Rattle.tui_keys.specs.declared.keys.KeyDecoder.{KeyDecoder}
use Rattle.tui_keys.specs.declared.keys.Decoded.{Decoded}

-- some events, and then more
Takes-then : {A : Type 0} (b : Behaviour A) (es fs : List Event) (old mid new : A) (f g h : Flow) →
    Takes b old f es mid g → Takes b mid g fs new h → Takes b old f (es ++ fs) new h
Takes-then b es fs old mid new Quit g h s t =
    let quit : Takes b mid Quit fs new h = subst (λ (l : Flow). Takes b mid l fs new h) s.1 t in
    (quit.0 ∙ s.0, quit.1)
Takes-then b [] fs old mid new Go g h s t = subst (λ (l : Flow). Takes b old l fs new h) s.1 (subst (λ (a : _). Takes b a g fs new h) s.0 t)
Takes-then b [] fs old mid new Redraw g h s t = subst (λ (l : Flow). Takes b old l fs new h) s.1 (subst (λ (a : _). Takes b a g fs new h) s.0 t)
Takes-then b (e ∷ es) fs old mid new Go g h s t = (s.0, s.1, s.2, Takes-then b es fs s.0 mid new (joined Go s.1) g h s.3 t)
Takes-then b (e ∷ es) fs old mid new Redraw g h s t = (s.0, s.1, s.2, Takes-then b es fs s.0 mid new (joined Redraw s.1) g h s.3 t)

last_size-append : (es fs : List Event) (size : Option Size) → last_size size (es ++ fs) ≡ last_size (last_size size es) fs
last_size-append [] fs size = refl
last_size-append (e ∷ es) fs size = last_size-append es fs (sized size e)

pub handles_then : {A : Type 0} (b : Behaviour A) (old mid new : A) (f g h : Reaction) (es fs : List Event) →
    HandlesEvents b old f es mid g → HandlesEvents b mid g fs new h → HandlesEvents b old f (es ++ fs) new h
handles_then b old mid new f g h es fs s t = record {
  takes = Takes-then b es fs old mid new f.flow g.flow h.flow s.takes t.takes;
  size = t.size ∙ (ap (λ (l : Option Size). last_size l fs) s.size ∙ sym (last_size-append es fs f.size));
}

or_assoc : (x y z : Bool) → ((x || y) || z) ≡ (x || (y || z))
or_assoc true y z = refl
or_assoc false y z = refl

but_ticks_then : {A : Type 0} (b : Behaviour A) (old mid new : A) (f g h : Handled) (es fs : List Event) →
    HandlesButTicks b old f es mid g → HandlesButTicks b mid g fs new h → HandlesButTicks b old f (es ++ fs) new h
but_ticks_then b old mid new f g h es fs s t = record {
  handled = subst (λ (l : List Event). HandlesEvents b old f.reaction l new h.reaction) (sym (filter-append (λ e. not (is_tick e)) es fs))
      (handles_then b old mid new f.reaction g.reaction h.reaction (without_ticks es) (without_ticks fs) s.handled t.handled);
  ticked = t.ticked ∙ (ap (λ (c : Bool). c || list_any is_tick fs) s.ticked
      ∙ (or_assoc f.ticked (list_any is_tick es) (list_any is_tick fs) ∙ ap (λ (c : Bool). f.ticked || c) (sym (list_any-append is_tick es fs))));
}

pub both_handled : {A E : Type 0} (b : Behaviour A) (old mid new : A) (f g : Handled) (result : Result Handled E) (es fs : List Event) →
    HandlesButTicks b old f es mid g → IfOk result (HandlesButTicks b mid g fs new) → IfOk result (HandlesButTicks b old f (es ++ fs) new)
both_handled b old mid new f g (Ok h) es fs s t = but_ticks_then b old mid new f g h es fs s t
both_handled b old mid new f g (Err e) es fs s t = tt

-- ---- byte by byte

more_events : (keys : KeyDecoder) (bytes : List ℕ) (i : ℕ) → i < length bytes →
    events_of keys (take (i + 1) bytes) ≡ events_of keys (take i bytes) ++ events_in (stepped (keys_after keys (take i bytes)) (get_or bytes i 0))
unfolding events_of
more_events keys bytes i h =
    rw (take_more bytes i 0 h)
    ((one_piece keys (take i bytes) (get_or bytes i 0 ∷ [])).events
    ∙ ap (λ (l : List Event). events_of keys (take i bytes) ++ l) (append-nil (events_in (stepped (keys_after keys (take i bytes)) (get_or bytes i 0)))))

more_keys : (keys : KeyDecoder) (bytes : List ℕ) (i : ℕ) → i < length bytes →
    keys_after keys (take (i + 1) bytes) ≡ (stepped (keys_after keys (take i bytes)) (get_or bytes i 0)).keys
unfolding keys_after
more_keys keys bytes i h = rw (take_more bytes i 0 h) (one_piece keys (take i bytes) (get_or bytes i 0 ∷ [])).pending

next_events : (keys pending : KeyDecoder) (bytes : List ℕ) (i : ℕ) (step : Decoded) → i < length bytes → pending ≡ keys_after keys (take i bytes) →
    step ≡ stepped pending (get_or bytes i 0) → events_of keys (take (i + 1) bytes) ≡ events_of keys (take i bytes) ++ events_in step
next_events keys pending bytes i step h p s = rw (s, p) (more_events keys bytes i h)

-- what holds while the bytes of a read are handled
pub record HasHandled {A : Type 0} (b : Behaviour A) (begin : A) (keys : KeyDecoder) (bytes : List ℕ) (new : A) (handled : Handled) (now : KeyDecoder) : Type 0 where
  pub events : HandlesButTicks b begin none_handled (events_of keys bytes) new handled
  pub pending : now ≡ keys_after keys bytes

pub handled_first : {A : Type 0} (b : Behaviour A) (begin : A) (keys : KeyDecoder) →
    HasHandled b begin keys [] begin (record { reaction = record { flow = Go; size = None }; ticked = false }) keys
unfolding events_of keys_after
handled_first b begin keys = record { events = record { handled = record { takes = (refl, refl); size = refl }; ticked = refl }; pending = refl }

pub handled_more : {A : Type 0} (b : Behaviour A) (begin old new : A) (keys pending : KeyDecoder) (bytes : List ℕ) (i : ℕ) (step : Decoded) (before next : Handled) →
    i < length bytes → step ≡ stepped pending (get_or bytes i 0) → HasHandled b begin keys (take i bytes) old before pending →
    HandlesButTicks b old before (events_in step) new next → HasHandled b begin keys (take (i + 1) bytes) new next step.keys
handled_more b begin old new keys pending bytes i step before next h s reached handled =
    let e = next_events keys pending bytes i step h reached.pending s in
    record {
      events = subst (λ (es : List Event). HandlesButTicks b begin none_handled es new next) (sym e)
          (but_ticks_then b begin old new none_handled before next (events_of keys (take i bytes)) (events_in step) reached.events handled);
      pending = rw (s, reached.pending) (sym (more_keys keys bytes i h));
    }

-- ---- the end of a read

part_paused : {A : Type 0} (b : Behaviour A) (old mid new : A) (keys : KeyDecoder) (bytes : List ℕ) (part next : PartOfRead) → nat_lt (length bytes) read_capacity ≡ true →
    HandlesPart b old none_handled (events_of keys bytes) (keys_after keys bytes) mid part →
    HandlesPart b mid part.handled (events_in (paused part.keys)) (paused part.keys).keys new next →
    HandlesPart b old none_handled (decoded_of_read keys bytes) (keys_after_read keys bytes) new next
unfolding events_of_short_read keys_after_short_read
part_paused b old mid new keys bytes part next short before more =
    let p : paused part.keys ≡ paused (keys_after keys bytes) = ap paused before.keys_are in
    let handled : HandlesButTicks b old none_handled (events_of keys bytes ++ events_in (paused (keys_after keys bytes))) new next.handled =
    subst (λ (l : Decoded). HandlesButTicks b old none_handled (events_of keys bytes ++ events_in l) new next.handled) p
    (but_ticks_then b old mid new none_handled part.handled next.handled (events_of keys bytes) (events_in (paused part.keys)) before.handled more.handled) in
    record {
      handled = subst (λ (es : List Event). HandlesButTicks b old none_handled es new next.handled) (sym (cond-true _ (events_of_short_read keys bytes) (events_of keys bytes) short)) handled;
      keys_are = more.keys_are ∙ (ap (λ (l : Decoded). l.keys) p ∙ sym (cond-true _ (keys_after_short_read keys bytes) (keys_after keys bytes) short));
    }

pub part_end : {A E : Type 0} (b : Behaviour A) (old mid new : A) (keys : KeyDecoder) (bytes : List ℕ) (part : PartOfRead) (result : Result PartOfRead E) →
    length bytes < read_capacity → HandlesPart b old none_handled (events_of keys bytes) (keys_after keys bytes) mid part →
    IfOk result (HandlesPart b mid part.handled (events_in (paused part.keys)) (paused part.keys).keys new) →
    IfOk result (HandlesPart b old none_handled (decoded_of_read keys bytes) (keys_after_read keys bytes) new)
part_end b old mid new keys bytes part (Ok next) short before more =
    part_paused b old mid new keys bytes part next (lt-ltb (length bytes) read_capacity short) before more
part_end b old mid new keys bytes part (Err e) short before more = tt

-- the other events of a read, and then its tick
pub tick_then : {A E : Type 0} (b : Behaviour A) (old mid new : A) (keys : KeyDecoder) (bytes : List ℕ) (part : PartOfRead) (result : Result AfterRead E) →
    HandlesPart b old none_handled (decoded_of_read keys bytes) (keys_after_read keys bytes) mid part →
    IfOk result (HandlesBytes b mid part.handled.reaction (if part.handled.ticked then Tick ∷ [] else []) part.keys new) →
    IfOk result (HandlesBytes b old no_reaction (events_of_read keys bytes) (keys_after_read keys bytes) new)
tick_then b old mid new keys bytes part (Ok next) before tick =
    let decoded = decoded_of_read keys bytes in
    let handled = subst (λ (t : Bool). HandlesEvents b mid part.handled.reaction (if t then Tick ∷ [] else []) new next.reaction) before.handled.ticked tick.handled in
    record {
      handled = handles_then b old mid new no_reaction part.handled.reaction next.reaction (without_ticks decoded) (if list_any is_tick decoded then Tick ∷ [] else [])
          before.handled.handled handled;
      keys_are = tick.keys_are ∙ before.keys_are;
    }
tick_then b old mid new keys bytes part (Err e) before tick = tt
