-- A paste begins and ends at its marks, and nowhere else.
use Rattle.std.proofs.Common.{◌≡◌, ◌≢◌, inl, inr, ℕ, Bool, true, false, not, [], ◌∷◌, All, Option, None, Some, refl, sym, ap, subst, ◌==◌, if◌then◌else◌, arith}
use Rattle.std.specs.Option.{option_map}
use Rattle.std.proofs.lemmas.Bool.Decides.{nat_tests}
use Rattle.std.proofs.lemmas.List.Elements.{All-append, All-cons, All-head, All-nil, All-weaker}
use Rattle.tui_keys.proofs.Bounds.{IsKey, IsMet, IsTyped, of_in_paste, of_typed, positive}
use Rattle.tui_keys.specs.declared.event.Event.{Event}
use Rattle.tui_keys.specs.declared.event.Event.TheVariants as events
use Rattle.tui_keys.specs.declared.keys.KeyDecoder.{KeyDecoder}
use Rattle.tui_keys.specs.declared.keys.Pending.{Pending}
use Rattle.tui_keys.specs.declared.keys.Pending.TheVariants.{Sequence}
use Rattle.tui_keys.specs.declared.keys.Decoded.{Decoded}
use Rattle.tui_keys.specs.Events.{events_in, some_of}
use Rattle.tui_keys.specs.Laws.{IsMark, IsOutside, OnlyBeginBegins, OnlyEndEnds, OutsideIsOutside, TogglesAt}
use Rattle.tui_keys.specs.Steps.{in_paste, is_end, nul, pasted, pasted_event, stepped, typed}

-- in a paste or not
abbrev in_keys : Bool → Pending → KeyDecoder
in_keys pasting pending = record { pasting = pasting; pending = pending }

-- `s` is the step of a byte: at the mark it toggles the paste with this one event, elsewhere it does neither
record IsToggled (number : ℕ) (event : Event) (was : Bool) (p : Pending) (b : ℕ) (s : Decoded) : Type 0 where
  at_mark : IsMark number p b → (s.keys.pasting ≡ not was) × (events_in s ≡ event ∷ [])
  elsewhere : (IsMark number p b → ⊥) → (s.keys.pasting ≡ was) × All (λ (e : Event). e ≢ event) (events_in s)

mark_tilde : (number : ℕ) (p : Pending) (b : ℕ) → IsMark number p b → b ≡ 126
mark_tilde number (Sequence n) b m = m.3
mark_tilde number p b m = absurd m

no_nul : (number : ℕ) (p : Pending) (b : ℕ) → (b == 0) ≡ true → IsMark number p b → ⊥
no_nul number p b e m =
    let tilde : b ≡ 126 = mark_tilde number p b m in
    let zero : b ≡ 0 = grind (arith, nat_tests) in
    absurd (omega arith)

differs : (event e : Event) → (IsKey event → ⊥) → IsKey e → e ≢ event
differs event e none h is = none (subst (λ (q : Event). IsKey q) is h)

all_differ : (event : Event) (s : Decoded) → (IsKey event → ⊥) → All IsKey (some_of s.first) → All IsKey (some_of s.second) →
    All (λ (e : Event). e ≢ event) (events_in s)
all_differ event s none f g =
    let other = λ (e : Event). e ≢ event in
    All-append other (some_of s.first) (some_of s.second)
    (All-weaker IsKey other (λ e h. differs event e none h) (some_of s.first) f)
    (All-weaker IsKey other (λ e h. differs event e none h) (some_of s.second) g)

-- ---- outside a paste

keys_of : (o : Option Event) → All IsTyped (some_of o) → All IsKey (some_of o)
keys_of o all = All-weaker IsTyped IsKey (λ e h. h.1) (some_of o) all

typed_turns : (p : Pending) (b : ℕ) (s : Decoded) → IsMet 200 events.PasteBegin p b s → IsToggled 200 events.PasteBegin false p b s
typed_turns p b s is = elim is.met [
  | inl mark ↦ subst (λ (k : Decoded). IsToggled 200 events.PasteBegin false p b k) (sym mark.1)
      (record { at_mark = λ m. (refl, refl); elsewhere = λ none. absurd (none mark.0) })
  | inr other ↦ record {
    at_mark = λ m. absurd (other.0 m);
    elsewhere = λ none. (other.1.opens, all_differ events.PasteBegin s (λ h. h) (keys_of s.first other.1.first) (keys_of s.second other.1.second));
  }
]

nul_turns : (number : ℕ) (event e : Event) (was : Bool) (p : Pending) (b : ℕ) → (b == 0) ≡ true → e ≢ event →
    IsToggled number event was p b (record { keys = in_keys was p; first = None; second = Some e })
nul_turns number event e was p b zero other = record {
  at_mark = λ m. absurd (no_nul number p b zero m);
  elsewhere = λ none. (refl, All-cons (λ (k : Event). k ≢ event) e [] other (All-nil (λ (k : Event). k ≢ event)));
}

outside_by : (t : Bool) (p : Pending) (b : ℕ) (s : Decoded) → (b == 0) ≡ t → (t ≡ false → IsMet 200 events.PasteBegin p b s) →
    IsToggled 200 events.PasteBegin false p b (if t then nul (in_keys false p) else s)
outside_by true p b s e f = nul_turns 200 events.PasteBegin events.Tick false p b e (differs events.PasteBegin events.Tick (λ h. h) tt)
outside_by false p b s e f = typed_turns p b s (f refl)

outside_turns : (p : Pending) (b : ℕ) → IsToggled 200 events.PasteBegin false p b (stepped (in_keys false p) b)
unfolding stepped
outside_turns p b = outside_by (b == 0) p b (typed p b) refl (λ e. of_typed p b (positive b e))

begins_at : (p : Pending) (b : ℕ) → TogglesAt 200 events.PasteBegin (in_keys false p) b
begins_at p b =
    let t = outside_turns p b in
    record { at_mark = t.at_mark; elsewhere = t.elsewhere }

pub only_begin_begins : OnlyBeginBegins
only_begin_begins keys b is = subst (λ (q : Bool). TogglesAt 200 events.PasteBegin (in_keys q keys.pending) b) (sym is) (begins_at keys.pending b)

-- ---- no end of a paste either

key_outside : (e : Event) → IsKey e → IsOutside e
key_outside events.PasteEnd h = absurd h
key_outside e h = tt

typed_outside : (p : Pending) (b : ℕ) (s : Decoded) → IsMet 200 events.PasteBegin p b s → All IsOutside (events_in s)
typed_outside p b s is = elim is.met [
  | inl mark ↦ subst (λ (k : Decoded). All IsOutside (events_in k)) (sym mark.1) (All-cons IsOutside events.PasteBegin [] tt (All-nil IsOutside))
  | inr other ↦ All-append IsOutside (some_of s.first) (some_of s.second)
      (All-weaker IsTyped IsOutside (λ e h. key_outside e h.1) (some_of s.first) other.1.first)
      (All-weaker IsTyped IsOutside (λ e h. key_outside e h.1) (some_of s.second) other.1.second)
]

none_by : (t : Bool) (p : Pending) (b : ℕ) (s : Decoded) → (t ≡ false → IsMet 200 events.PasteBegin p b s) →
    All IsOutside (events_in (if t then nul (in_keys false p) else s))
none_by true p b s f = All-cons IsOutside events.Tick [] tt (All-nil IsOutside)
none_by false p b s f = typed_outside p b s (f refl)

none_outside : (p : Pending) (b : ℕ) → All IsOutside (events_in (stepped (in_keys false p) b))
unfolding stepped
none_outside p b = none_by (b == 0) p b (typed p b) (λ e. of_typed p b (positive b e))

pub outside_is_outside : OutsideIsOutside
outside_is_outside keys b is = subst (λ (q : Bool). All IsOutside (events_in (stepped (in_keys q keys.pending) b))) (sym is) (none_outside keys.pending b)

-- ---- within a paste

key_pasted : (e : Event) → IsKey e → IsKey (pasted_event e)
key_pasted events.PasteBegin h = absurd h
key_pasted events.PasteEnd h = absurd h
key_pasted e h = tt

option_pasted : (o : Option Event) → All IsTyped (some_of o) → All IsKey (some_of (option_map pasted_event o))
option_pasted None all = All-nil IsKey
option_pasted (Some e) all = All-cons IsKey (pasted_event e) [] (key_pasted e (All-head IsTyped e [] all).1) (All-nil IsKey)

no_end : (o : Option Event) → All IsTyped (some_of o) → is_end o ≡ false
no_end None all = refl
no_end (Some e) all = no_end_event e (All-head IsTyped e [] all).1
  where
    no_end_event : (e : Event) → IsKey e → is_end (Some e) ≡ false
    no_end_event events.PasteEnd h = absurd h
    no_end_event e h = refl

pasted_turns : (p : Pending) (b : ℕ) (s : Decoded) → IsMet 201 events.PasteEnd p b s → IsToggled 201 events.PasteEnd true p b (pasted s)
pasted_turns p b s is = elim is.met [
  | inl mark ↦ subst (λ (k : Decoded). IsToggled 201 events.PasteEnd true p b (pasted k)) (sym mark.1)
      (record { at_mark = λ m. (refl, refl); elsewhere = λ none. absurd (none mark.0) })
  | inr other ↦ record {
    at_mark = λ m. absurd (other.0 m);
    elsewhere = λ none. (
      ap not (no_end s.second other.1.second),
      all_differ events.PasteEnd (pasted s) (λ h. h) (option_pasted s.first other.1.first) (option_pasted s.second other.1.second),
    );
  }
]

within_by : (t : Bool) (p : Pending) (b : ℕ) (s : Decoded) → (b == 0) ≡ t → (t ≡ false → IsMet 201 events.PasteEnd p b s) →
    IsToggled 201 events.PasteEnd true p b (if t then nul (in_keys true p) else pasted s)
within_by true p b s e f = nul_turns 201 events.PasteEnd events.Unknown true p b e (differs events.PasteEnd events.Unknown (λ h. h) tt)
within_by false p b s e f = pasted_turns p b s (f refl)

within_turns : (p : Pending) (b : ℕ) → IsToggled 201 events.PasteEnd true p b (stepped (in_keys true p) b)
unfolding stepped
within_turns p b = within_by (b == 0) p b (in_paste p b) refl (λ e. of_in_paste p b (positive b e))

ends_at : (p : Pending) (b : ℕ) → TogglesAt 201 events.PasteEnd (in_keys true p) b
ends_at p b =
    let t = within_turns p b in
    record { at_mark = t.at_mark; elsewhere = t.elsewhere }

pub only_end_ends : OnlyEndEnds
only_end_ends keys b is = subst (λ (q : Bool). TogglesAt 201 events.PasteEnd (in_keys q keys.pending) b) (sym is) (ends_at keys.pending b)
