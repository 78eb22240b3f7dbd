-- Laws of the decoder.
use Rattle.std.specs.Prelude.{
  ℕ,
  ◌≡◌,
  ◌≢◌,
  ◌⊎◌,
  ◌<◌,
  ◌≤◌,
  ◌*◌,
  Bool,
  true,
  false,
  List,
  [],
  ◌∷◌,
  ◌++◌,
  All,
  length,
  map,
  flat_map,
  codes,
  encode_utf8_all,
  not,
  if◌then◌else◌,
  ⊤,
}
use Rattle.std.specs.Str.Parse.{IsNumeral, digits_value}
use Rattle.tui_keys.specs.declared.event.Event.{Event}
use Rattle.tui_keys.specs.declared.event.Event.TheVariants as events
use Rattle.tui_keys.specs.declared.keys.KeyDecoder.{KeyDecoder}
use Rattle.tui_keys.specs.declared.keys.Pending.{Pending}
use Rattle.tui_keys.specs.declared.keys.Pending.TheVariants.{Sequence}
use Rattle.tui_keys.specs.Events.{events_of, events_of_short_read, keys_after, keys_after_short_read, events_in}
use Rattle.tui_keys.specs.Sent.{IsBounded, IsPlain, IsUnambiguous, IsUnambiguousAlone, csi, escape, sent_for}
use Rattle.tui_keys.specs.Steps.{at_rest, opens_answer, paused, start, stepped}

-- From the state `keys` these bytes decode to these events, and leave the state `next`.
pub record AreRead (keys : KeyDecoder) (bytes : List ℕ) (es : List Event) (next : KeyDecoder) : Type 0 where
  pub events : events_of keys bytes ≡ es
  pub pending : keys_after keys bytes ≡ next

-- ---- all bytes

-- bytes decode in two pieces as they do in one
abbrev pub PiecesAreOne : Type 0
PiecesAreOne = (keys : KeyDecoder) (a b : List ℕ) →
    AreRead keys (a ++ b) (events_of keys a ++ events_of (keys_after keys a) b) (keys_after (keys_after keys a) b)

-- at most two events a byte
abbrev pub EventsAreFew : Type 0
EventsAreFew = (keys : KeyDecoder) (bs : List ℕ) → length (events_of keys bs) ≤ 2 * length bs

-- NUL between any bytes is a tick, or unknown within a paste; everything else is as without it
abbrev pub NulIsATick : Type 0
NulIsATick = (keys : KeyDecoder) (a b : List ℕ) →
    AreRead keys (a ++ 0 ∷ b)
    (events_of keys a ++ (if (keys_after keys a).pasting then events.Unknown else events.Tick) ∷ events_of (keys_after keys a) b)
    (keys_after keys (a ++ b))

-- two reads have the events of their bytes in one read, unless the end of the first yields an event
abbrev pub ReadsAreOne : Type 0
ReadsAreOne = (keys : KeyDecoder) (a b : List ℕ) → events_in (paused (keys_after keys a)) ≡ [] →
    (events_of_short_read keys a ++ events_of_short_read (keys_after_short_read keys a) b ≡ events_of_short_read keys (a ++ b))
    × (keys_after_short_read (keys_after_short_read keys a) b ≡ keys_after_short_read keys (a ++ b))

-- the numbers and letters of each event are within their bounds
abbrev pub EventsAreBounded : Type 0
EventsAreBounded = (keys : KeyDecoder) (bs : List ℕ) → All IsBounded (events_of keys bs)

-- ---- pastes

abbrev pub IsPasted : Event → Type 0
IsPasted (events.Char c) = ⊤
IsPasted events.PasteEnd = ⊤
IsPasted events.Unknown = ⊤
IsPasted event = ⊥

-- within a paste each event is a character, the end of the paste, or unknown
abbrev pub PastedIsPasted : Type 0
PastedIsPasted = (keys : KeyDecoder) (b : ℕ) → keys.pasting ≡ true → All IsPasted (events_in (stepped keys b))

abbrev pub IsOutside : Event → Type 0
IsOutside events.PasteEnd = ⊥
IsOutside event = ⊤

-- outside a paste no event is the end of one
abbrev pub OutsideIsOutside : Type 0
OutsideIsOutside = (keys : KeyDecoder) (b : ℕ) → keys.pasting ≡ false → All IsOutside (events_in (stepped keys b))

-- the tilde of ESC [ number ~: the sequence has this number and nothing else
abbrev pub IsMark : ℕ → Pending → ℕ → Type 0
IsMark number (Sequence n) b = (n.is_plain ≡ true) × (n.place ≡ 0) × (n.first ≡ number) × (b ≡ 126)
IsMark number pending b = ⊥

-- At this mark the paste toggles and this is the only event. At any other byte the paste state stays and no
-- event is this one.
pub record TogglesAt (number : ℕ) (event : Event) (keys : KeyDecoder) (b : ℕ) : Type 0 where
  pub at_mark : IsMark number keys.pending b → ((stepped keys b).keys.pasting ≡ not keys.pasting) × (events_in (stepped keys b) ≡ event ∷ [])
  pub elsewhere : (IsMark number keys.pending b → ⊥) →
      ((stepped keys b).keys.pasting ≡ keys.pasting) × All (λ (e : Event). e ≢ event) (events_in (stepped keys b))

-- only ESC [ 200 ~ begins a paste, and only ESC [ 201 ~ ends it
abbrev pub OnlyBeginBegins : Type 0
OnlyBeginBegins = (keys : KeyDecoder) (b : ℕ) → keys.pasting ≡ false → TogglesAt 200 events.PasteBegin keys b

abbrev pub OnlyEndEnds : Type 0
OnlyEndEnds = (keys : KeyDecoder) (b : ℕ) → keys.pasting ≡ true → TogglesAt 201 events.PasteEnd keys b

-- these bytes end with ESC [ and the digits of this number
abbrev pub EndsInNumber : ℕ → List ℕ → Type 0
EndsInNumber number bytes = (before digits : List ℕ) × (bytes ≡ before ++ csi digits) × IsNumeral 10 digits × (digits_value 10 digits ≡ number)

-- The bytes before a mark, apart from NULs, end with ESC [ and its number. Conversely, after such bytes a tilde is at
-- the mark, whatever came before.
pub record HasBytes (number : ℕ) : Type 0 where
  pub ends : (bytes : List ℕ) (b : ℕ) → All (λ (c : ℕ). c ≢ 0) bytes → IsMark number (keys_after start bytes).pending b → EndsInNumber number bytes
  pub stands : (keys : KeyDecoder) (digits : List ℕ) → IsNumeral 10 digits → digits_value 10 digits ≡ number →
      IsMark number (keys_after keys (csi digits)).pending 126

abbrev pub MarksHaveBytes : Type 0
MarksHaveBytes = (number : ℕ) → 0 < number → number < 65535 → HasBytes number

-- pasted text, with newlines and tabs, decodes to its characters
abbrev pub PasteIsItself : Type 0
PasteIsItself = (cs : List ℕ) → All (λ (c : ℕ). IsPlain c ⊎ ((c ≡ 9) ⊎ (c ≡ 10))) cs →
    AreRead start (sent_for events.PasteBegin ++ (encode_utf8_all cs ++ sent_for events.PasteEnd))
    (events.PasteBegin ∷ (map events.Char cs ++ events.PasteEnd ∷ [])) start

-- ---- what is sent decodes to the events

-- text in UTF-8 without control characters decodes to its characters, also within a paste
abbrev pub TextIsItself : Type 0
TextIsItself = (pasting : Bool) (cs : List ℕ) → All IsPlain cs → AreRead (at_rest pasting) (encode_utf8_all cs) (map events.Char cs) (at_rest pasting)

-- the bytes sent for events decode to these events, and leave nothing pending
abbrev pub SentIsRead : Type 0
SentIsRead = (es : List Event) → All IsUnambiguous es → AreRead start (flat_map sent_for es) es start

pub record IsReadAlone (event : Event) : Type 0 where
  pub events : events_of_short_read start (sent_for event) ≡ event ∷ []
  pub pending : keys_after_short_read start (sent_for event) ≡ start

-- the bytes sent for one event decode to this event if they are all of a read
abbrev pub AloneIsRead : Type 0
AloneIsRead = (event : Event) → IsUnambiguousAlone event → IsReadAlone event

-- ---- what other terminals send for the same keys, and what is skipped

-- a byte of a reply: no NUL, which is a tick there too, no BEL, no ESC
abbrev pub IsAnswerByte : ℕ → Type 0
IsAnswerByte b = (b ≢ 0) × (b ≢ 7) × (b ≢ 27)

-- BEL or ST
abbrev pub EndsAnswer : List ℕ → Type 0
EndsAnswer bytes = (bytes ≡ 7 ∷ []) ⊎ (bytes ≡ 27 ∷ 92 ∷ [])

-- a terminal's reply to a query of another program, which begins with ESC and one of these bytes, yields no event
abbrev pub AnswersPassOver : Type 0
AnswersPassOver = (opener : ℕ) (text last : List ℕ) → opens_answer opener ≡ true → All IsAnswerByte text → EndsAnswer last →
    AreRead start (27 ∷ opener ∷ (text ++ last)) [] start

abbrev pub Means : List ℕ → List Event → Type 0
Means bytes es = AreRead start bytes es start

pub record OthersAreRead : Type 0 where
  pub newline : Means (10 ∷ []) (events.Enter ∷ [])
  pub control_h : Means (8 ∷ []) (events.Backspace ∷ [])
  pub up_ss3 : Means (escape (codes "OA")) (events.Up ∷ [])
  pub home_ss3 : Means (escape (codes "OH")) (events.Home ∷ [])
  pub home_1 : Means (csi (codes "1~")) (events.Home ∷ [])
  pub end_4 : Means (csi (codes "4~")) (events.End ∷ [])
  pub home_7 : Means (csi (codes "7~")) (events.Home ∷ [])
  pub end_8 : Means (csi (codes "8~")) (events.End ∷ [])
  pub function_1 : Means (csi (codes "11~")) (events.F 1 ∷ [])
  pub console_1 : Means (csi (codes "[A")) (events.F 1 ∷ [])
  pub console_5 : Means (csi (codes "[E")) (events.F 5 ∷ [])
  pub meta_up : Means (csi (codes "1;9A")) (events.Up ∷ [])
  pub control_delete : Means (csi (codes "3;5~")) (events.Delete ∷ [])
  pub no_rows : Means (csi (codes "8;0;80t")) (events.Unknown ∷ [])
  pub many_columns : Means (csi (codes "8;24;1001t")) (events.Unknown ∷ [])
  pub cursor_place : Means (csi (codes "24;80R")) (events.Unknown ∷ [])
  pub private : Means (csi (codes "?1;2c")) (events.Unknown ∷ [])
  pub stray_end : Means (csi (codes "201~")) (events.Unknown ∷ [])
  pub begin_of_two : Means (csi (codes "200;5~")) (events.Unknown ∷ [])
  pub color_answer : Means (escape (codes "]11;rgb:0000/0000/0000" ++ 27 ∷ codes "\\")) []
  pub title_answer : Means (escape (codes "]lq" ++ 7 ∷ [])) []
  pub status_answer : Means (escape (codes "P1$r0m" ++ 27 ∷ codes "\\")) []
