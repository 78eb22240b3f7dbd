-- The bytes of one event, if they are all of a read.
use Rattle.std.proofs.Common.{◌≡◌, ◌≢◌, ℕ, ◌<◌, Bool, true, false, List, [], ◌∷◌, ◌++◌, refl, sym, ap, subst, ◌∙◌, arith}
use Rattle.std.specs.Prelude.{codes}
use Rattle.std.proofs.lemmas.Bool.Decides.{nat_tests}
use Rattle.tui_keys.proofs.Decoding.{joined, no_step}
use Rattle.tui_keys.proofs.Sending.{alt_read, escape_read, escaped_step, event_read}
use Rattle.tui_keys.proofs.Texts.{encode_one, escaped}
use Rattle.tui_keys.specs.declared.event.Event.{Event}
use Rattle.tui_keys.specs.declared.event.Event.TheVariants as events
use Rattle.tui_keys.specs.declared.keys.KeyDecoder.{KeyDecoder}
use Rattle.tui_keys.specs.declared.keys.Pending.TheVariants.{Opened}
use Rattle.tui_keys.specs.Events.{events_of_short_read, keys_after, keys_after_short_read, events_in}
use Rattle.tui_keys.specs.Laws.{AloneIsRead, AreRead, IsReadAlone}
use Rattle.tui_keys.specs.Sent.{IsNoneOf, IsPlain, IsUnambiguous, sent_for}
use Rattle.tui_keys.specs.Steps.{after_escape, opens_answer, paused, start, waits}
use lib.Utf8.{encode}

-- bytes that leave nothing pending, or whose pending rest becomes the event at the end of the read
ends : (e : Event) (k : KeyDecoder) (es : List Event) → AreRead start (sent_for e) es k → es ++ events_in (paused k) ≡ e ∷ [] → (paused k).keys ≡ start → IsReadAlone e
unfolding events_of_short_read keys_after_short_read
ends e k es h is pending = record {
  events = ap (λ (l : List Event). l ++ events_in (paused (keys_after start (sent_for e)))) h.events ∙ ap (λ (j : KeyDecoder). es ++ events_in (paused j)) h.pending ∙ is;
  pending = ap (λ (j : KeyDecoder). (paused j).keys) h.pending ∙ pending;
}

unambiguous_alone : (e : Event) → IsUnambiguous e → IsReadAlone e
unambiguous_alone e is = ends e start (e ∷ []) (event_read e is) refl refl

abbrev pub opened : ℕ → KeyDecoder
opened c = record { pasting = false; pending = Opened c }

opener_small : (c : ℕ) → opens_answer c ≡ true → c < 127
opener_small c is = grind (arith, nat_tests)

pub opener_step : (c : ℕ) → c ≢ 91 → c ≢ 79 → opens_answer c ≡ true → after_escape c ≡ waits (Opened c)
unfolding after_escape
opener_step c bracket ss3 is = rw is (grind (arith, nat_tests))

opener_alone : (c : ℕ) → IsPlain c → c ≢ 91 → c ≢ 79 → opens_answer c ≡ true → IsReadAlone (events.Alt c)
unfolding sent_for
opener_alone c is bracket ss3 opens =
    let small = opener_small c opens in
    let spelled : encode c ≡ c ∷ [] = encode_one c (omega (arith, small)) in
    ends (events.Alt c) (opened c) []
    (joined start escaped (opened c) (27 ∷ []) (encode c) [] [] escape_read
    (subst (λ (l : List ℕ). AreRead escaped l [] (opened c)) (sym spelled)
    (no_step escaped (opened c) c (escaped_step c is.1 ∙ opener_step c bracket ss3 opens)))) refl refl

alt_by : (c : ℕ) (t : Bool) → opens_answer c ≡ t → IsPlain c → c ≢ 91 → c ≢ 79 → IsReadAlone (events.Alt c)
unfolding sent_for
alt_by c true opens is bracket ss3 = opener_alone c is bracket ss3 opens
alt_by c false none is bracket ss3 = ends (events.Alt c) start (events.Alt c ∷ []) (alt_read c is bracket ss3 none) refl refl

alt_alone : (c : ℕ) → IsPlain c → IsNoneOf (codes "[O") c → IsReadAlone (events.Alt c)
alt_alone c is none =
    let bracket : c ≢ 91 = none 0 0 (omega arith) in
    let ss3 : c ≢ 79 = none 1 0 (omega arith) in
    alt_by c (opens_answer c) refl is bracket ss3

escape_alone : IsReadAlone events.Esc
unfolding sent_for
escape_alone = ends events.Esc escaped [] escape_read refl refl

pub alone_is_read : AloneIsRead
alone_is_read (events.Char c) is = unambiguous_alone (events.Char c) is
alone_is_read events.Enter is = unambiguous_alone events.Enter is
alone_is_read events.Tab is = unambiguous_alone events.Tab is
alone_is_read events.BackTab is = unambiguous_alone events.BackTab is
alone_is_read events.Backspace is = unambiguous_alone events.Backspace is
alone_is_read events.Esc is = escape_alone
alone_is_read events.Up is = unambiguous_alone events.Up is
alone_is_read events.Down is = unambiguous_alone events.Down is
alone_is_read events.Left is = unambiguous_alone events.Left is
alone_is_read events.Right is = unambiguous_alone events.Right is
alone_is_read events.Home is = unambiguous_alone events.Home is
alone_is_read events.End is = unambiguous_alone events.End is
alone_is_read events.PageUp is = unambiguous_alone events.PageUp is
alone_is_read events.PageDown is = unambiguous_alone events.PageDown is
alone_is_read events.Insert is = unambiguous_alone events.Insert is
alone_is_read events.Delete is = unambiguous_alone events.Delete is
alone_is_read (events.F n) is = unambiguous_alone (events.F n) is
alone_is_read (events.Ctrl c) is = unambiguous_alone (events.Ctrl c) is
alone_is_read (events.Alt c) is = alt_alone c is.0 is.1
alone_is_read (events.With m motion) is = unambiguous_alone (events.With m motion) is
alone_is_read events.PasteBegin is = absurd is
alone_is_read events.PasteEnd is = absurd is
alone_is_read (events.Resize columns rows) is = unambiguous_alone (events.Resize columns rows) is
alone_is_read events.Tick is = unambiguous_alone events.Tick is
alone_is_read events.Unknown is = absurd is
