-- Characters that no rule for grapheme clusters joins with one another.
use Rattle.std.specs.Prelude.{
  ◌≡◌,
  ℕ,
  ◌<◌,
  ◌≤◌,
  Bool,
  true,
  false,
  ◌&&◌,
  ◌||◌,
  ◌==◌,
  nat_le,
  if◌then◌else◌,
  List,
  [],
  ◌∷◌,
  ◌++◌,
  length,
  slice_index,
  take,
  drop,
  encode_utf8,
  encode_utf8_all,
  chars,
}
use Rattle.std.specs.List.{list_all}
use Rattle.std.specs.Str.{IsCharBoundary}
use Rattle.tui_clusters.specs.Printable.{is_printable}
use Rattle.tui_clusters.specs.Shown.{has_control}
use Rattle.ucd_table.specs.Rows.{Range, in_ranges}
use Rattle.unicode_segmentation.specs.Grapheme.{graphemes}

-- ranges without controls, marks, jamo, prepended characters, flags, and consonants and linkers of conjuncts, and with
-- no white space but U+0020: most of Latin, Greek, Cyrillic and CJK, their punctuation, and symbols
abbrev pub plain_ranges : List Range
plain_ranges =
    (0x0020, 0x007E)
    ∷ (0x00AE, 0x02FF)
    ∷ (0x0370, 0x0482)
    ∷ (0x048A, 0x0590)
    ∷ (0x1E00, 0x1FFF)
    ∷ (0x2010, 0x2027)
    ∷ (0x20F1, 0x2CEE)
    ∷ (0x3001, 0x3029)
    ∷ (0x3030, 0x3098)
    ∷ (0x309B, 0xA66E)
    ∷ (0xFF00, 0xFF9D)
    ∷ []

unfoldable pub is_plain : ℕ → Bool
is_plain c = in_ranges plain_ranges c

-- the text is one character of these ranges
pub record IsCharIn (ranges : List Range) (text : List ℕ) : Type 0 where
  pub char : ℕ
  pub encoded : text ≡ encode_utf8 char
  pub is : chars text ≡ char ∷ []
  pub within : in_ranges ranges char ≡ true

-- one plain character
abbrev pub IsPlainChar : List ℕ → Type 0
IsPlainChar text = IsCharIn plain_ranges text

-- the plain characters of n bytes that their first byte identifies: U+0020 to U+007E, letters and signs of U+00C0 to
-- U+02FF and U+0380 to U+047F, and ideographs, U+4000 to U+9FFF
abbrev pub known_ranges : ℕ → List Range
known_ranges n =
    if n == 1 then (0x0020, 0x007E) ∷ []
    else if n == 2 then (0x00C0, 0x02FF) ∷ (0x0380, 0x047F) ∷ []
    else if n == 3 then (0x4000, 0x9FFF) ∷ []
    else []

-- one letter or sign of two bytes
abbrev pub IsLetter : List ℕ → Type 0
IsLetter text = IsCharIn (known_ranges 2) text

-- one ideograph
abbrev pub IsIdeograph : List ℕ → Type 0
IsIdeograph text = IsCharIn (known_ranges 3) text

-- signs for lines, blocks or shapes
abbrev pub sign_ranges : List Range
sign_ranges = (0x2500, 0x25BF) ∷ []

-- one of these signs
abbrev pub IsSign : List ℕ → Type 0
IsSign text = IsCharIn sign_ranges text

-- whether two bytes begin such a sign
abbrev pub is_sign_start : ℕ → ℕ → Bool
is_sign_start first second = (first == 0xE2) && (nat_le 0x94 second && nat_le second 0x96)

-- for the first byte of a character: the length of the character in bytes if that byte identifies a plain one, else 0
unfoldable pub plain_len : ℕ → ℕ
plain_len b =
    if nat_le 0x20 b && nat_le b 0x7E then 1
    else if nat_le 0xE4 b && nat_le b 0xE9 then 3
    else if (nat_le 0xC3 b && nat_le b 0xCB) || (nat_le 0xCE b && nat_le b 0xD1) then 2
    else 0

-- the characters before and after the index are plain
pub record IsSeam (text : List ℕ) (place : ℕ) : Type 0 where
  pub boundary : IsCharBoundary text place
  pub front : List ℕ
  pub last : ℕ
  pub next : ℕ
  pub back : List ℕ
  pub before : take place text ≡ encode_utf8_all (front ++ last ∷ [])
  pub after : drop place text ≡ encode_utf8 next ++ back
  pub last_plain : is_plain last ≡ true
  pub next_plain : is_plain next ≡ true

-- the text begins with a printable byte and then ends, or continues with another one
abbrev pub BeginsPrintable : List ℕ → Type 0
BeginsPrintable text = (is_printable (slice_index text 0) ≡ true) × (1 < length text → is_printable (slice_index text 1) ≡ true)

-- the text begins with n printable bytes, each of which is a cluster by itself: after the last one the text ends, or a
-- byte identifies a plain character
pub record IsPlainRun (text : List ℕ) (n : ℕ) : Type 0 where
  pub within : n ≤ length text
  pub printable : list_all is_printable (take n text) ≡ true
  pub apart : 0 < n → n < length text → 0 < plain_len (slice_index text n)

-- the first cluster of the text has n bytes, and is shown
pub record IsPlainFirst (text : List ℕ) (n : ℕ) : Type 0 where
  pub boundary : IsCharBoundary text n
  pub clusters : graphemes true text ≡ take n text ∷ graphemes true (drop n text)
  pub shown : has_control (take n text) ≡ false
