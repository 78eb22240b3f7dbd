-- Which symbols have a known width, and which are sent.
use Rattle.std.specs.Prelude.{ℕ, ◌+◌, ◌-◌, ◌*◌, Bool, true, false, not, ◌&&◌, ◌||◌, ◌==◌, nat_le, nat_lt, List, [], ◌∷◌, chars, unwrap_or}
use Rattle.unicode_width.specs.Width.{char_width}
use Rattle.tui_text.specs.Visible.{step_of}
use Rattle.tui_terminal_model.specs.declared.widths.KnownWidths.{KnownWidths}
use Rattle.tui_terminal_model.specs.declared.widths.KnownWidths.TheVariants.{Common, Ascii}
use Rattle.tui_terminal_model.specs.Terminal.{reach}

-- ---- symbols of known width: one character whose width all terminals agree on, and which joins no other

-- from one character to another, both included
pub record Range : Type 0 where
  pub from : ℕ
  pub to : ℕ

abbrev range : ℕ → ℕ → Range
range from to = record { from = from; to = to }

abbrev one : ℕ → Range
one c = range c c

abbrev pub is_among : List Range → ℕ → Bool
is_among [] c = false
is_among (r ∷ rs) c = (nat_le r.from c && nat_le c r.to) || is_among rs c

-- of one byte: ASCII without the control characters
abbrev pub ascii_ranges : List Range
ascii_ranges = range 0x20 0x7E ∷ []

-- of two: Latin without the copyright sign, the soft hyphen and the registered sign; Greek; Cyrillic without its marks
abbrev pub two_byte_ranges : List Range
two_byte_ranges =
    range 0xA1 0xA8 ∷ range 0xAA 0xAC ∷ range 0xAF 0x2FF
    ∷ range 0x370 0x377 ∷ range 0x37A 0x37F ∷ range 0x384 0x38A ∷ one 0x38C ∷ range 0x38E 0x3A1 ∷ range 0x3A3 0x3FF
    ∷ range 0x400 0x482 ∷ range 0x48A 0x52F ∷ []

-- Of three: dashes, quotes and dots; arrows, lines, blocks and shapes without those that are emoji; Braille; CJK
-- punctuation; kana; CJK ideographs; Hangul syllables; fullwidth forms.
abbrev pub three_byte_ranges : List Range
three_byte_ranges =
    range 0x2010 0x2027 ∷ range 0x2190 0x2193 ∷ range 0x219A 0x21A8 ∷ range 0x21AB 0x21FF
    ∷ range 0x2500 0x25A9 ∷ range 0x25AC 0x25B5 ∷ range 0x25B7 0x25BF ∷ range 0x25C1 0x25FA ∷ one 0x25FF
    ∷ range 0x2800 0x28FF ∷ range 0x3001 0x3029 ∷ range 0x3041 0x3096 ∷ range 0x309B 0x30FF ∷ range 0x4E00 0x9FD5
    ∷ range 0xAC00 0xD7A3 ∷ range 0xFF01 0xFF60 ∷ range 0xFFE0 0xFFE6 ∷ []

-- a continuation byte of UTF-8
abbrev pub is_tail : ℕ → Bool
is_tail b = nat_le 0x80 b && nat_le b 0xBF

unfoldable pub is_ascii : List ℕ → Bool
is_ascii (a ∷ []) = is_among ascii_ranges a
is_ascii _ = false

-- by the bytes of UTF-8
unfoldable pub is_common : List ℕ → Bool
is_common (a ∷ []) = is_among ascii_ranges a
is_common (a ∷ b ∷ []) = (is_tail b && nat_le 0xC0 a) && is_among two_byte_ranges (64 * (a - 0xC0) + (b - 0x80))
is_common (a ∷ b ∷ c ∷ []) =
    ((is_tail b && is_tail c) && nat_le 0xE0 a) && is_among three_byte_ranges (4096 * (a - 0xE0) + (64 * (b - 0x80) + (c - 0x80)))
is_common _ = false

abbrev pub has_known_width : KnownWidths → List ℕ → Bool
has_known_width Common symbol = is_common symbol
has_known_width Ascii symbol = is_ascii symbol

-- ---- symbols that are sent

-- Whether a byte may come next; `after` says whether the byte before it is 0xC2. It may not be part of a control
-- character, U+0000 to U+001F or U+007F to U+009F.
abbrev pub is_quiet_byte : Bool → ℕ → Bool
is_quiet_byte after b = (nat_le 0x20 b && not (b == 0x7F)) && (not after || nat_le 0xA0 b)

abbrev pub is_quiet_from : Bool → List ℕ → Bool
is_quiet_from after [] = true
is_quiet_from after (b ∷ bs) = is_quiet_byte after b && is_quiet_from (b == 0xC2) bs

-- whether no byte of a symbol is part of a control character
unfoldable pub is_quiet : List ℕ → Bool
is_quiet symbol = is_quiet_from false symbol

-- whether a character is a skin tone, which joins an emoji before it (UAX #29: Extend), though it has
-- columns of its own
abbrev pub is_skin_tone : ℕ → Bool
is_skin_tone c = nat_le 0x1F3FB c && nat_le c 0x1F3FF

-- whether the first character takes a column by itself, so that it doesn't join what is before it
abbrev pub has_columns : List ℕ → Bool
has_columns [] = false
has_columns (c ∷ cs) = nat_lt 0 (unwrap_or (char_width false c) 0) && not (is_skin_tone c)

unfoldable pub is_led : List ℕ → Bool
is_led symbol = has_columns (chars symbol)

-- Characters that join what comes after them, even after a move: the zero width joiner, a Hangul jamo that leads a
-- syllable, and Prepend in UAX #29.
abbrev pub joins_next : List Range
joins_next =
    one 0x200D ∷ range 0x1100 0x115F ∷ range 0xA960 0xA97C
    ∷ range 0x600 0x605 ∷ one 0x6DD ∷ one 0x70F ∷ range 0x890 0x891 ∷ one 0x8E2 ∷ one 0xD4E ∷ one 0x110BD ∷ one 0x110CD
    ∷ range 0x111C2 0x111C3 ∷ one 0x1193F ∷ one 0x11941 ∷ one 0x11A3A ∷ range 0x11A84 0x11A89 ∷ one 0x11D46 ∷ one 0x11F02 ∷ []

abbrev pub last_ends : ℕ → List ℕ → Bool
last_ends c [] = not (is_among joins_next c)
last_ends c (d ∷ ds) = last_ends d ds

-- whether the last character joins nothing that comes after it
abbrev pub ends_chars : List ℕ → Bool
ends_chars [] = false
ends_chars (c ∷ cs) = last_ends c cs

unfoldable pub is_ended : List ℕ → Bool
is_ended symbol = ends_chars (chars symbol)

-- Whether a symbol may be sent, with this many columns left in the row. It must hold no control character, and fit. If
-- its width is uncertain, it must also join nothing beside it, and fit however wide a terminal draws it.
unfoldable pub is_sendable : KnownWidths → ℕ → List ℕ → Bool
is_sendable widths room symbol =
    (is_quiet symbol && nat_le (step_of symbol) room) && (has_known_width widths symbol || ((is_led symbol && is_ended symbol) && nat_le (reach symbol) room))
