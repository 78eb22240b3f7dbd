-- What is sent within a paste.
use Rattle.std.proofs.Common.{◌≡◌, ◌⊎◌, inl, inr, ℕ, Bool, true, false, List, [], ◌∷◌, ◌++◌, All, map, Option, None, Some, refl, sym, subst, ◌==◌, if◌then◌else◌}
use Rattle.std.specs.Prelude.{encode_utf8_all}
use Rattle.std.specs.Option.{option_map}
use Rattle.std.proofs.lemmas.List.Elements.{All-append, All-cons, All-head, All-nil, All-tail}
use Rattle.tui_keys.proofs.Decoding.{joined, nothing_read}
use Rattle.tui_keys.proofs.Texts.{plain_read}
use Rattle.tui_keys.specs.declared.event.Event.{Event}
use Rattle.tui_keys.specs.declared.event.Event.TheVariants as events
use Rattle.tui_keys.specs.declared.keys.KeyDecoder.{KeyDecoder}
use Rattle.tui_keys.specs.declared.keys.Pending.{Pending}
use Rattle.tui_keys.specs.declared.keys.Decoded.{Decoded}
use Rattle.tui_keys.specs.Events.{events_of, keys_after, events_in, some_of}
use Rattle.tui_keys.specs.Laws.{AreRead, IsPasted, PasteIsItself, PastedIsPasted}
use Rattle.tui_keys.specs.Sent.{IsPlain, sent_for}
use Rattle.tui_keys.specs.Steps.{after_bracket, after_escape, at_rest, ground, in_paste, in_sequence, marked, nul, pasted, pasted_event, after_pasted_escape, start, stepped, with_digit}
use lib.Utf8.{encode}

event_is_pasted : (e : Event) → IsPasted (pasted_event e)
event_is_pasted (events.Char c) = tt
event_is_pasted events.Enter = tt
event_is_pasted events.Tab = tt
event_is_pasted events.BackTab = tt
event_is_pasted events.Backspace = tt
event_is_pasted events.Esc = tt
event_is_pasted events.Up = tt
event_is_pasted events.Down = tt
event_is_pasted events.Left = tt
event_is_pasted events.Right = tt
event_is_pasted events.Home = tt
event_is_pasted events.End = tt
event_is_pasted events.PageUp = tt
event_is_pasted events.PageDown = tt
event_is_pasted events.Insert = tt
event_is_pasted events.Delete = tt
event_is_pasted (events.F n) = tt
event_is_pasted (events.Ctrl c) = tt
event_is_pasted (events.Alt c) = tt
event_is_pasted (events.With m motion) = tt
event_is_pasted events.PasteBegin = tt
event_is_pasted events.PasteEnd = tt
event_is_pasted (events.Resize columns rows) = tt
event_is_pasted events.Tick = tt
event_is_pasted events.Unknown = tt

option_is_pasted : (o : Option Event) → All IsPasted (some_of (option_map pasted_event o))
option_is_pasted None = All-nil IsPasted
option_is_pasted (Some e) = All-cons IsPasted (pasted_event e) [] (event_is_pasted e) (All-nil IsPasted)

-- a decoder within a paste
abbrev pasting : Pending → KeyDecoder
pasting pending = record { pasting = true; pending = pending }

choice_is_pasted : (t : Bool) (p : Pending) (s : Decoded) → All IsPasted (events_in (if t then nul (pasting p) else pasted s))
choice_is_pasted true p s = All-cons IsPasted events.Unknown [] tt (All-nil IsPasted)
choice_is_pasted false p s = All-append IsPasted (some_of (option_map pasted_event s.first)) (some_of (option_map pasted_event s.second))
    (option_is_pasted s.first) (option_is_pasted s.second)

pasting_is_pasted : (p : Pending) (b : ℕ) → All IsPasted (events_in (stepped (pasting p) b))
unfolding stepped
pasting_is_pasted p b = choice_is_pasted (b == 0) p (in_paste p b)

pub pasted_is_pasted : PastedIsPasted
pasted_is_pasted keys b is =
    subst (λ (q : Bool). All IsPasted (events_in (stepped (record { pasting = q; pending = keys.pending }) b))) (sym is) (pasting_is_pasted keys.pending b)

-- a pasted text
abbrev IsText : ℕ → Type 0
IsText c = IsPlain c ⊎ ((c ≡ 9) ⊎ (c ≡ 10))

tab_read : AreRead (at_rest true) (9 ∷ []) (events.Char 9 ∷ []) (at_rest true)
unfolding events_of keys_after stepped ground
tab_read = record { events = refl; pending = refl }

newline_read : AreRead (at_rest true) (10 ∷ []) (events.Char 10 ∷ []) (at_rest true)
unfolding events_of keys_after stepped ground
newline_read = record { events = refl; pending = refl }

read_as : (a b : ℕ) → b ≡ a → AreRead (at_rest true) (encode a) (events.Char a ∷ []) (at_rest true) →
    AreRead (at_rest true) (encode b) (events.Char b ∷ []) (at_rest true)
read_as a b is h = subst (λ (c : ℕ). AreRead (at_rest true) (encode c) (events.Char c ∷ []) (at_rest true)) (sym is) h

tab_encoded : AreRead (at_rest true) (encode 9) (events.Char 9 ∷ []) (at_rest true)
unfolding encode
tab_encoded = tab_read

newline_encoded : AreRead (at_rest true) (encode 10) (events.Char 10 ∷ []) (at_rest true)
unfolding encode
newline_encoded = newline_read

text_character : (c : ℕ) → IsText c → AreRead (at_rest true) (encode c) (events.Char c ∷ []) (at_rest true)
text_character c is = elim is [
  | inl plain ↦ plain_read true c plain
  | inr other ↦ elim other [ inl tab ↦ read_as 9 c tab tab_encoded | inr newline ↦ read_as 10 c newline newline_encoded ]
]

text_read : (cs : List ℕ) → All IsText cs → AreRead (at_rest true) (encode_utf8_all cs) (map events.Char cs) (at_rest true)
text_read [] all = nothing_read (at_rest true)
text_read (c ∷ cs) all =
    joined (at_rest true) (at_rest true) (at_rest true) (encode c) (encode_utf8_all cs) (events.Char c ∷ []) (map events.Char cs)
    (text_character c (All-head IsText c cs all)) (text_read cs (All-tail IsText c cs all))

begin_read : AreRead start (sent_for events.PasteBegin) (events.PasteBegin ∷ []) (at_rest true)
unfolding events_of keys_after stepped ground after_escape after_bracket in_sequence marked with_digit sent_for
begin_read = record { events = refl; pending = refl }

end_read : AreRead (at_rest true) (sent_for events.PasteEnd) (events.PasteEnd ∷ []) start
unfolding events_of keys_after stepped ground after_pasted_escape after_bracket in_sequence marked with_digit sent_for
end_read = record { events = refl; pending = refl }

pub paste_is_itself : PasteIsItself
paste_is_itself cs all =
    joined start (at_rest true) start (sent_for events.PasteBegin) (encode_utf8_all cs ++ sent_for events.PasteEnd) (events.PasteBegin ∷ [])
    (map events.Char cs ++ events.PasteEnd ∷ []) begin_read
    (joined (at_rest true) (at_rest true) start (encode_utf8_all cs) (sent_for events.PasteEnd) (map events.Char cs) (events.PasteEnd ∷ [])
    (text_read cs all) end_read)
