-- The ticks of a read are one tick.
use Rattle.std.proofs.Common.{◌≡◌, ℕ, ◌<◌, Bool, true, false, cond, not, ◌||◌, List, [], ◌∷◌, ◌++◌, length, if◌then◌else◌, refl, sym, ap, ◌∙◌, arith}
use Rattle.std.proofs.lemmas.Bool.{cond-true, lt-ltb}
use Rattle.std.proofs.lemmas.List.{append-nil, append_assoc, length-append}
use Rattle.std.proofs.lemmas.List.Elements.{filter-append}
use Rattle.std.proofs.lemmas.List.Folds.{list_any-append}
use Rattle.std.specs.List.{list_any}
use Rattle.tui_app.specs.EventLoop.{decoded_of_read, is_tick, ticks_last, without_ticks}
use Rattle.tui_app.specs.Trace.{read_capacity}
use Rattle.tui_app_laws.specs.Ticks.{TicksAreOne}
use Rattle.tui_keys.proofs.Decoding.{nul_is_a_tick, one_piece}
use Rattle.tui_keys.specs.Events.{events_in, events_of, events_of_short_read, keys_after}
use Rattle.tui_keys.specs.Steps.{paused}
use Rattle.tui_keys.specs.declared.event.Event.{Event}
use Rattle.tui_keys.specs.declared.event.Event.TheVariants.{Tick, Unknown}
use Rattle.tui_keys.specs.declared.keys.KeyDecoder.{KeyDecoder}

-- ---- events

without-cond : (e : Event) (es : List Event) (c : Bool) → not (is_tick e) ≡ c → without_ticks (cond c (e ∷ es) es) ≡ cond c (e ∷ without_ticks es) (without_ticks es)
without-cond e es true t = ap (λ (c : Bool). cond c (e ∷ without_ticks es) (without_ticks es)) t
without-cond e es false t = refl

without_twice : (es : List Event) → without_ticks (without_ticks es) ≡ without_ticks es
without_twice [] = refl
without_twice (e ∷ es) =
    without-cond e (without_ticks es) (not (is_tick e)) refl ∙ ap (λ (l : List Event). cond (not (is_tick e)) (e ∷ l) l) (without_twice es)

without-tick : (c : Bool) → without_ticks (if c then Tick ∷ [] else []) ≡ []
without-tick true = refl
without-tick false = refl

without-last : (es : List Event) → without_ticks (ticks_last es) ≡ without_ticks es
without-last es =
    filter-append (λ e. not (is_tick e)) (without_ticks es) (if list_any is_tick es then Tick ∷ [] else [])
    ∙ (ap (λ (l : List Event). without_ticks (without_ticks es) ++ l) (without-tick (list_any is_tick es))
    ∙ (append-nil (without_ticks (without_ticks es)) ∙ without_twice es))

or-true : (b : Bool) → (b || true) ≡ true
or-true true = refl
or-true false = refl

-- a tick among events
last-tick : (xs ys : List Event) → ticks_last (xs ++ Tick ∷ ys) ≡ without_ticks (xs ++ ys) ++ Tick ∷ []
last-tick xs ys =
    let others : without_ticks (xs ++ Tick ∷ ys) ≡ without_ticks (xs ++ ys) =
    filter-append (λ e. not (is_tick e)) xs (Tick ∷ ys) ∙ sym (filter-append (λ e. not (is_tick e)) xs ys) in
    let some : list_any is_tick (xs ++ Tick ∷ ys) ≡ true = list_any-append is_tick xs (Tick ∷ ys) ∙ or-true (list_any is_tick xs) in
    ap (λ (l : List Event). l ++ (if list_any is_tick (xs ++ Tick ∷ ys) then Tick ∷ [] else [])) others
    ∙ ap (λ (c : Bool). without_ticks (xs ++ ys) ++ (if c then Tick ∷ [] else [])) some

-- ---- bytes

-- what comes after these bytes
after : KeyDecoder → List ℕ → List ℕ → List Event
after keys a b = events_of (keys_after keys a) b ++ events_in (paused (keys_after keys (a ++ b)))

decoded-short : (keys : KeyDecoder) (bytes : List ℕ) → length bytes < read_capacity → decoded_of_read keys bytes ≡ events_of keys bytes ++ events_in (paused (keys_after keys bytes))
unfolding events_of_short_read
decoded-short keys bytes short = cond-true _ (events_of_short_read keys bytes) (events_of keys bytes) (lt-ltb (length bytes) read_capacity short)

decoded-append : (keys : KeyDecoder) (a b : List ℕ) → length (a ++ b) < read_capacity → decoded_of_read keys (a ++ b) ≡ events_of keys a ++ after keys a b
unfolding after
decoded-append keys a b short =
    decoded-short keys (a ++ b) short
    ∙ (ap (λ (l : List Event). l ++ events_in (paused (keys_after keys (a ++ b)))) (one_piece keys a b).events ∙ append_assoc (events_of keys a) (events_of (keys_after keys a) b) _)

decoded-nul : (keys : KeyDecoder) (a b : List ℕ) → (keys_after keys a).pasting ≡ false → length (a ++ 0 ∷ b) < read_capacity →
    decoded_of_read keys (a ++ 0 ∷ b) ≡ events_of keys a ++ Tick ∷ after keys a b
unfolding after
decoded-nul keys a b outside short =
    let nul = nul_is_a_tick keys a b in
    let rest = events_of (keys_after keys a) b in
    let end = events_in (paused (keys_after keys (a ++ b))) in
    decoded-short keys (a ++ 0 ∷ b) short
    ∙ (ap (λ (k : KeyDecoder). events_of keys (a ++ 0 ∷ b) ++ events_in (paused k)) nul.pending
    ∙ (ap (λ (l : List Event). l ++ end) nul.events
    ∙ (ap (λ (c : Bool). (events_of keys a ++ (if c then Unknown else Tick) ∷ rest) ++ end) outside ∙ append_assoc (events_of keys a) (Tick ∷ rest) end)))

pub ticks_are_one : TicksAreOne
ticks_are_one keys a b outside short =
    let less : length (a ++ b) < read_capacity = omega (arith, short, length-append a (0 ∷ b), length-append a b) in
    ap ticks_last (decoded-nul keys a b outside short)
    ∙ (last-tick (events_of keys a) (after keys a b)
    ∙ sym (ap (λ (l : List Event). l ++ Tick ∷ [])
    (without-last (decoded_of_read keys (a ++ b)) ∙ ap without_ticks (decoded-append keys a b less))))
