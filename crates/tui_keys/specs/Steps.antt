-- The step of the decoder at each byte, by ECMA-48, UTF-8 and xterm's control sequences.
use Rattle.std.specs.Prelude.{ℕ, ◌+◌, ◌-◌, ◌*◌, ◌/◌, ◌%◌, min, Bool, true, false, not, ◌&&◌, ◌||◌, ◌==◌, nat_le, nat_lt, Option, None, Some, if◌then◌else◌}
use Rattle.std.specs.Option.{option_map}
use Rattle.tui_keys.specs.declared.event.Event.{Event}
use Rattle.tui_keys.specs.declared.event.Event.TheVariants as events
use Rattle.tui_keys.specs.declared.event.Modifiers.{Modifiers}
use Rattle.tui_keys.specs.declared.event.Motion.{Motion}
use Rattle.tui_keys.specs.declared.event.Motion.TheVariants as motions
use Rattle.tui_keys.specs.declared.keys.PartialCharacter.{PartialCharacter}
use Rattle.tui_keys.specs.declared.keys.KeyDecoder.{KeyDecoder}
use Rattle.tui_keys.specs.declared.keys.Numbers.{Numbers}
use Rattle.tui_keys.specs.declared.keys.Pending.{Pending}
use Rattle.tui_keys.specs.declared.keys.Pending.TheVariants.{Nothing, Escape, Bracket, Ss3, Console, Sequence, Opened, Answer, AnswerEscape, Character}
use Rattle.tui_keys.specs.declared.keys.Decoded.{Decoded}

-- nothing is pending, within a paste or not
abbrev pub at_rest : Bool → KeyDecoder
at_rest pasting = record { pasting = pasting; pending = Nothing }

abbrev pub start : KeyDecoder
start = at_rest false

abbrev pub begins_paste : Event → Bool
begins_paste events.PasteBegin = true
begins_paste event = false

-- one event, and nothing is pending
abbrev pub one : Event → Decoded
one event = record { keys = at_rest (begins_paste event); first = None; second = Some event }

-- no event yet
abbrev pub waits : Pending → Decoded
waits pending = record { keys = record { pasting = false; pending = pending }; first = None; second = None }

-- the first byte of a character of several bytes, with ESC before it (`alt`) or not
unfoldable pub lead : Bool → ℕ → Decoded
lead alt b =
    if nat_lt b 194 then one events.Unknown
    else if nat_lt b 224 then waits (Character (record { alt = alt; left = 1; least = 128; code = b - 192 }))
    else if nat_lt b 240 then waits (Character (record { alt = alt; left = 2; least = 2048; code = b - 224 }))
    else if nat_lt b 245 then waits (Character (record { alt = alt; left = 3; least = 65536; code = b - 240 }))
    else one events.Unknown

-- a byte if nothing is pending: 1 to 26 are letters with Ctrl except for Backspace, Tab and Enter; 27 is ESC
unfoldable pub ground : ℕ → Decoded
ground b =
    if b == 8 then one events.Backspace
    else if b == 9 then one events.Tab
    else if b == 10 then one events.Enter
    else if b == 13 then one events.Enter
    else if nat_lt b 27 then one (events.Ctrl (b + 96))
    else if b == 27 then waits Escape
    else if nat_lt b 32 then one events.Unknown
    else if nat_lt b 127 then one (events.Char b)
    else if b == 127 then one events.Backspace
    else lead false b

-- an event for what was pending, and then what the byte yields by itself
abbrev pub broken_by : Event → ℕ → Decoded
broken_by event b = record (ground b) { first = Some event }

-- the modifiers of a number: subtract 1, then 1 is Shift, 2 is Alt, 4 is Ctrl; the other bits are ignored
unfoldable pub modifiers_of : ℕ → Modifiers
modifiers_of n = record { shift = (n - 1) % 2 == 1; alt = (n - 1) / 2 % 2 == 1; ctrl = (n - 1) / 4 % 2 == 1 }

abbrev pub plain : Motion → Event
plain motions.Up = events.Up
plain motions.Down = events.Down
plain motions.Left = events.Left
plain motions.Right = events.Right
plain motions.Home = events.Home
plain motions.End = events.End

-- a motion with its modifiers, if there are any
unfoldable pub moved : ℕ → Motion → Event
moved n motion =
    if (modifiers_of n).shift || (modifiers_of n).alt || (modifiers_of n).ctrl then events.With (modifiers_of n) motion else plain motion

-- the key of the last byte of a sequence, with the number of its modifiers
unfoldable pub letter : ℕ → ℕ → Event
letter n b =
    if b == 65 then moved n motions.Up
    else if b == 66 then moved n motions.Down
    else if b == 67 then moved n motions.Right
    else if b == 68 then moved n motions.Left
    else if b == 70 then moved n motions.End
    else if b == 72 then moved n motions.Home
    else if b == 80 then events.F 1
    else if b == 81 then events.F 2
    else if b == 82 then events.F 3
    else if b == 83 then events.F 4
    else if b == 90 then events.BackTab
    else events.Unknown

-- the key of a first number before a tilde, with the number of its modifiers
unfoldable pub tilde : ℕ → ℕ → Event
tilde n key =
    if key == 1 then moved n motions.Home
    else if key == 2 then events.Insert
    else if key == 3 then events.Delete
    else if key == 4 then moved n motions.End
    else if key == 5 then events.PageUp
    else if key == 6 then events.PageDown
    else if key == 7 then moved n motions.Home
    else if key == 8 then moved n motions.End
    else if key == 11 then events.F 1
    else if key == 12 then events.F 2
    else if key == 13 then events.F 3
    else if key == 14 then events.F 4
    else if key == 15 then events.F 5
    else if key == 17 then events.F 6
    else if key == 18 then events.F 7
    else if key == 19 then events.F 8
    else if key == 20 then events.F 9
    else if key == 21 then events.F 10
    else if key == 23 then events.F 11
    else if key == 24 then events.F 12
    else events.Unknown

-- a number with one more digit, saturating at 65535
abbrev pub more : ℕ → ℕ → ℕ
more n digit = min (n * 10 + digit) 65535

abbrev pub no_numbers : Numbers
no_numbers = record { first = 0; second = 0; third = 0; place = 0; is_plain = true }

unfoldable pub with_digit : Numbers → ℕ → Numbers
with_digit n digit =
    if n.place == 0 then record n { first = more n.first digit }
    else if n.place == 1 then record n { second = more n.second digit }
    else if n.place == 2 then record n { third = more n.third digit }
    else n

unfoldable pub with_next : Numbers → Numbers
with_next n = if nat_lt n.place 3 then record n { place = n.place + 1 } else n

abbrev pub is_size : ℕ → Bool
is_size n = nat_lt 0 n && nat_le n 1000

-- CSI 8 ; rows ; columns t
unfoldable pub size_of : Numbers → Event
size_of n =
    if (n.first == 8) && (n.place == 2) && is_size n.second && is_size n.third then events.Resize n.third n.second else events.Unknown

-- The event of a whole sequence. A key has at most two numbers, of which the second encodes its modifiers. Before a
-- letter the first number is 1 or left out.
unfoldable pub sequence_of : Numbers → ℕ → Event
sequence_of n last =
    if not n.is_plain then events.Unknown
    else if last == 116 then size_of n
    else if nat_lt 1 n.place then events.Unknown
    else if last == 126 then tilde n.second n.first
    else if nat_lt 1 n.first then events.Unknown
    else letter n.second last

-- in a sequence: digits and semicolons form numbers, and a byte from 64 to 126 ends it
unfoldable pub in_sequence : Numbers → ℕ → Decoded
in_sequence n b =
    if nat_lt b 32 then broken_by events.Unknown b
    else if nat_lt b 48 then waits (Sequence (record n { is_plain = false }))
    else if nat_lt b 58 then waits (Sequence (with_digit n (b - 48)))
    else if b == 59 then waits (Sequence (with_next n))
    else if nat_lt b 64 then waits (Sequence (record n { is_plain = false }))
    else if nat_lt b 127 then one (sequence_of n b)
    else broken_by events.Unknown b

-- the tilde of ESC [ number ~, if the sequence has this number and nothing else
abbrev pub is_mark : ℕ → Numbers → ℕ → Bool
is_mark number n b = (b == 126) && n.is_plain && (n.place == 0) && (n.first == number)

-- in a sequence that is this event if it has only this number
unfoldable pub marked : ℕ → Event → Numbers → ℕ → Decoded
marked number event n b = if is_mark number n b then one event else in_sequence n b

-- OSC, DCS, SOS, PM, APC
abbrev pub opens_answer : ℕ → Bool
opens_answer b = (b == 93) || (b == 80) || (b == 88) || (b == 94) || (b == 95)

-- after ESC
unfoldable pub after_escape : ℕ → Decoded
after_escape b =
    if b == 91 then waits Bracket
    else if b == 79 then waits Ss3
    else if opens_answer b then waits (Opened b)
    else if nat_lt b 32 then broken_by events.Esc b
    else if nat_lt b 127 then one (events.Alt b)
    else if b == 127 then broken_by events.Esc b
    else lead true b

-- after ESC [
unfoldable pub after_bracket : ℕ → Decoded
after_bracket b = if b == 91 then waits Console else in_sequence no_numbers b

-- after ESC O
unfoldable pub after_ss3 : ℕ → Decoded
after_ss3 b = if nat_lt b 32 then broken_by events.Unknown b else if nat_lt b 127 then one (letter 0 b) else broken_by events.Unknown b

-- after ESC [ [, which the Linux console sends before A to E
unfoldable pub console_key : ℕ → Event
console_key b = if nat_lt b 65 then events.Unknown else if nat_lt b 70 then events.F (b - 64) else events.Unknown

unfoldable pub in_console : ℕ → Decoded
in_console b = if nat_lt b 32 then broken_by events.Unknown b else if nat_lt b 127 then one (console_key b) else broken_by events.Unknown b

-- in a reply to a query of another program, which ends with BEL or ST
unfoldable pub in_answer : ℕ → Decoded
in_answer b = if b == 7 then waits Nothing else if b == 27 then waits AnswerEscape else waits Answer

unfoldable pub ends_answer : ℕ → Decoded
ends_answer b = if b == 92 then waits Nothing else after_escape b

-- a character as an event, with ESC before it (`alt`) or not
abbrev pub character_event : Bool → ℕ → Event
character_event true c = events.Alt c
character_event false c = events.Char c

-- the character with this code; unknown if the encoding is overlong or the code is no character
unfoldable pub character_of : Bool → ℕ → ℕ → Event
character_of alt least code =
    if nat_lt code least then events.Unknown
    else if nat_lt code 55296 then character_event alt code
    else if nat_lt code 57344 then events.Unknown
    else if nat_lt code 1114112 then character_event alt code
    else events.Unknown

-- in a character
unfoldable pub in_character : PartialCharacter → ℕ → Decoded
in_character p b =
    if nat_lt b 128 then broken_by events.Unknown b
    else if nat_lt b 192 then (
    let code = p.code % 32768 * 64 + (b - 128) in
    if nat_lt p.left 2 then one (character_of p.alt p.least code)
    else waits (Character (record { alt = p.alt; left = p.left - 1; least = p.least; code = code })))
    else broken_by events.Unknown b

-- outside a paste; a sequence may begin one
abbrev pub typed : Pending → ℕ → Decoded
typed Nothing b = ground b
typed Escape b = after_escape b
typed Bracket b = after_bracket b
typed Ss3 b = after_ss3 b
typed Console b = in_console b
typed (Sequence n) b = marked 200 events.PasteBegin n b
typed (Opened opener) b = in_answer b
typed Answer b = in_answer b
typed AnswerEscape b = ends_answer b
typed (Character p) b = in_character p b

-- Within a paste, ESC [ begins a sequence, which may end the paste. ESC and another byte are unknown.
unfoldable pub after_pasted_escape : ℕ → Decoded
after_pasted_escape b =
    if b == 91 then waits Bracket
    else if nat_lt b 32 then broken_by events.Unknown b
    else if nat_lt b 127 then one events.Unknown
    else broken_by events.Unknown b

abbrev pub in_paste : Pending → ℕ → Decoded
in_paste Escape b = after_pasted_escape b
in_paste (Sequence n) b = marked 201 events.PasteEnd n b
in_paste pending b = typed pending b

-- an event as it is within a paste: a character, the end of the paste, or unknown
abbrev pub pasted_event : Event → Event
pasted_event (events.Char c) = events.Char c
pasted_event events.Enter = events.Char 10
pasted_event events.Tab = events.Char 9
pasted_event events.PasteEnd = events.PasteEnd
pasted_event event = events.Unknown

abbrev pub is_end : Option Event → Bool
is_end (Some events.PasteEnd) = true
is_end event = false

abbrev pub pasted : Decoded → Decoded
pasted s = record {
  keys = record { pasting = not (is_end s.second); pending = s.keys.pending };
  first = option_map pasted_event s.first;
  second = option_map pasted_event s.second;
}

-- no event, and no change
abbrev pub unchanged : KeyDecoder → Decoded
unchanged keys = record { keys = keys; first = None; second = None }

-- NUL does not interrupt a pending sequence or character
abbrev pub nul : KeyDecoder → Decoded
nul keys = record { keys = keys; first = None; second = Some (if keys.pasting then events.Unknown else events.Tick) }

-- the step of the decoder at a byte
unfoldable pub stepped : KeyDecoder → ℕ → Decoded
stepped keys b = if b == 0 then nul keys else if keys.pasting then pasted (in_paste keys.pending b) else typed keys.pending b

-- The end of a short read: a lone ESC is the Esc key, and ESC with a byte that could begin a reply is Alt
-- with that character.
abbrev pub paused_typed : Pending → Decoded
paused_typed Escape = one events.Esc
paused_typed (Opened opener) = one (events.Alt opener)
paused_typed pending = waits pending

abbrev pub paused : KeyDecoder → Decoded
paused keys = if keys.pasting then unchanged keys else paused_typed keys.pending
