-- Bytes in pieces; at most two events a byte; NUL.
use Rattle.std.proofs.Common.{Bool, true, false, ◌≡◌, ℕ, ◌≤◌, List, [], ◌∷◌, ◌++◌, length, Option, None, Some, refl, sym, ap, ◌∙◌, append_assoc, if◌then◌else◌, arith}
use Rattle.std.proofs.lemmas.List.{append-nil, length-append}
use Rattle.tui_keys.specs.declared.event.Event.{Event}
use Rattle.tui_keys.specs.declared.event.Event.TheVariants as events
use Rattle.tui_keys.specs.declared.keys.KeyDecoder.{KeyDecoder}
use Rattle.tui_keys.specs.declared.keys.Decoded.{Decoded}
use Rattle.tui_keys.specs.declared.keys.Pending.{Pending}
use Rattle.tui_keys.specs.declared.keys.Pending.TheVariants.{Nothing, Escape, Bracket, Ss3, Console, Sequence, Opened, Answer, AnswerEscape, Character}
use Rattle.tui_keys.specs.Events.{events_of_short_read, keys_after_short_read, events_of, keys_after, events_in, some_of}
use Rattle.tui_keys.specs.Laws.{AreRead, EventsAreFew, NulIsATick, PiecesAreOne, ReadsAreOne}
use Rattle.tui_keys.specs.Steps.{paused, stepped}

pub one_piece : PiecesAreOne
unfolding events_of keys_after
one_piece keys [] b = record { events = refl; pending = refl }
one_piece keys (x ∷ xs) b =
    let rest = one_piece (stepped keys x).keys xs b in
    record {
      events = ap (λ (l : List Event). events_in (stepped keys x) ++ l) rest.events ∙ sym (append_assoc (events_in (stepped keys x)) _ _);
      pending = rest.pending;
    }

-- bytes, and then others
pub joined : (k m n : KeyDecoder) (a b : List ℕ) (es fs : List Event) → AreRead k a es m → AreRead m b fs n → AreRead k (a ++ b) (es ++ fs) n
joined k m n a b es fs h g =
    let p = one_piece k a b in
    record {
      events = p.events ∙ ap (λ (l : List Event). l ++ events_of (keys_after k a) b) h.events
          ∙ ap (λ (j : KeyDecoder). es ++ events_of j b) h.pending ∙ ap (λ (l : List Event). es ++ l) g.events;
      pending = p.pending ∙ ap (λ (j : KeyDecoder). keys_after j b) h.pending ∙ g.pending;
    }

pub nothing_read : (k : KeyDecoder) → AreRead k [] [] k
unfolding events_of keys_after
nothing_read k = record { events = refl; pending = refl }

-- a byte that yields one event
pub one_step : (k m : KeyDecoder) (b : ℕ) (e : Event) → stepped k b ≡ record { keys = m; first = None; second = Some e } → AreRead k (b ∷ []) (e ∷ []) m
unfolding events_of keys_after
one_step k m b e is = record { events = ap (λ (s : Decoded). events_in s ++ []) is; pending = ap (λ (s : Decoded). s.keys) is }

-- a byte that yields no event
pub no_step : (k m : KeyDecoder) (b : ℕ) → stepped k b ≡ record { keys = m; first = None; second = None } → AreRead k (b ∷ []) [] m
unfolding events_of keys_after
no_step k m b is = record { events = ap (λ (s : Decoded). events_in s ++ []) is; pending = ap (λ (s : Decoded). s.keys) is }

few_options : (a b : Option Event) → length (some_of a ++ some_of b) ≤ 2
few_options None None = omega arith
few_options None (Some y) = omega arith
few_options (Some x) None = omega arith
few_options (Some x) (Some y) = omega arith

pub few : EventsAreFew
unfolding events_of
few keys [] = omega arith
few keys (x ∷ xs) =
    let rest = few (stepped keys x).keys xs in
    let here = few_options (stepped keys x).first (stepped keys x).second in
    let sum = length-append (events_in (stepped keys x)) (events_of (stepped keys x).keys xs) in
    omega (arith, rest, here, sum)

tick_first : (m : KeyDecoder) (b : List ℕ) → events_of m (0 ∷ b) ≡ (if m.pasting then events.Unknown else events.Tick) ∷ events_of m b
unfolding events_of stepped
tick_first m b = refl

tick_stays : (m : KeyDecoder) (b : List ℕ) → keys_after m (0 ∷ b) ≡ keys_after m b
unfolding keys_after stepped
tick_stays m b = refl

pub nul_is_a_tick : NulIsATick
nul_is_a_tick keys a b =
    let p = one_piece keys a (0 ∷ b) in
    let q = one_piece keys a b in
    record {
      events = p.events ∙ ap (λ (l : List Event). events_of keys a ++ l) (tick_first (keys_after keys a) b);
      pending = p.pending ∙ tick_stays (keys_after keys a) b ∙ sym q.pending;
    }

-- if the end of a read yields no event, it changes nothing
quiet : (q : Bool) (p : Pending) → events_in (paused (record { pasting = q; pending = p })) ≡ [] →
    (paused (record { pasting = q; pending = p })).keys ≡ record { pasting = q; pending = p }
quiet true p e = refl
quiet false Nothing e = refl
quiet false Escape e = grind (arith)
quiet false Bracket e = refl
quiet false Ss3 e = refl
quiet false Console e = refl
quiet false (Sequence n) e = refl
quiet false (Opened o) e = grind (arith)
quiet false Answer e = refl
quiet false AnswerEscape e = refl
quiet false (Character p) e = refl

pub reads_are_one : ReadsAreOne
unfolding events_of_short_read keys_after_short_read
reads_are_one keys a b none =
    let middle = keys_after keys a in
    let p = one_piece keys a b in
    let same : (paused middle).keys ≡ middle = quiet middle.pasting middle.pending none in
    let first : events_of keys a ++ events_in (paused middle) ≡ events_of keys a = ap (λ (l : List Event). events_of keys a ++ l) none ∙ append-nil
    (events_of keys a) in (
      ap (λ (l : List Event). l ++ events_of_short_read (paused middle).keys b) first ∙ ap (λ (k : KeyDecoder). events_of keys a ++ events_of_short_read k b) same
          ∙ sym (append_assoc (events_of keys a) (events_of middle b) _) ∙ ap (λ (l : List Event). l ++ events_in (paused (keys_after middle b))) (sym p.events)
          ∙ ap (λ (k : KeyDecoder). events_of keys (a ++ b) ++ events_in (paused k)) (sym p.pending),
      ap (λ (k : KeyDecoder). keys_after_short_read k b) same ∙ ap (λ (k : KeyDecoder). (paused k).keys) (sym p.pending),
    )
