-- How each event changes a text with a cursor.
use Rattle.std.specs.Prelude.{ℕ, Bool, true, false, ◌||◌, ◌==◌, if◌then◌else◌}
use Rattle.tui_input.specs.State.{TypedText, cut_to_end, cut_to_start, cut_word, to_end, to_left, to_right, to_start, typed, without_after, without_before}
use Rattle.tui_keys.specs.declared.event.Event.{Event}
use Rattle.tui_keys.specs.declared.event.Event.TheVariants as events

-- the state in a paste, or after one
abbrev pub with_pasting : TypedText → Bool → TypedText
with_pasting s pasting = record s { pasting = pasting }

-- a letter with Ctrl: a and e move to the ends, u and k delete up to them, w deletes a word
abbrev pub commanded : TypedText → ℕ → TypedText
commanded s c =
    if c == 97 then to_start s
    else if c == 101 then to_end s
    else if c == 117 then cut_to_start s
    else if c == 107 then cut_to_end s
    else if c == 119 then cut_word s
    else s

abbrev pub is_command : ℕ → Bool
is_command c = (c == 97) || (c == 101) || (c == 117) || (c == 107) || (c == 119)

-- outside a paste
abbrev pub keyed : TypedText → Event → TypedText
keyed s (events.Char c) = typed s c
keyed s events.Backspace = without_before s
keyed s events.Delete = without_after s
keyed s events.Left = to_left s
keyed s events.Right = to_right s
keyed s events.Home = to_start s
keyed s events.End = to_end s
keyed s (events.Ctrl c) = commanded s c
keyed s events.PasteBegin = with_pasting s true
keyed s event = s

abbrev pub is_key : Event → Bool
is_key (events.Char c) = true
is_key events.Backspace = true
is_key events.Delete = true
is_key events.Left = true
is_key events.Right = true
is_key events.Home = true
is_key events.End = true
is_key (events.Ctrl c) = is_command c
is_key events.PasteBegin = true
is_key event = false

-- a pasted newline becomes a space
abbrev pub pasted_char : ℕ → ℕ
pasted_char c = if c == 10 then 32 else c

-- in a paste there are only characters, up to its end
abbrev pub pasted : TypedText → Event → TypedText
pasted s (events.Char c) = typed s (pasted_char c)
pasted s events.PasteEnd = with_pasting s false
pasted s event = s

-- the state after an event
abbrev pub after_event : TypedText → Event → TypedText
after_event s event = if s.pasting then pasted s event else keyed s event

-- the event is a character; no other event allocates
abbrev pub is_character : Event → Bool
is_character (events.Char c) = true
is_character event = false

-- the input uses the event: it is one of its keys, or part of a paste
abbrev pub is_handled : TypedText → Event → Bool
is_handled s event = s.pasting || is_key event
