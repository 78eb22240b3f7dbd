-- A text with a cursor, and how each edit changes it.
use Rattle.std.specs.Prelude.{
  ◌≡◌,
  ◌≤◌,
  ℕ,
  Bool,
  true,
  false,
  not,
  ◌&&◌,
  ◌||◌,
  nat_lt,
  List,
  [],
  ◌∷◌,
  ◌++◌,
  length,
  take,
  drop,
  reverse,
  chars,
  encode_utf8,
  unwrap_or,
  if◌then◌else◌,
}
use Rattle.std.specs.Char.{is_control}
use Rattle.std.specs.Str.{IsCharBoundary}
use Rattle.tui_clusters.specs.Shown.{has_control}
use Rattle.tui_input.specs.Ends.{without_last, last_of, without_first, first_of, is_of_kind, trimmed}
use Rattle.unicode_segmentation.specs.Grapheme.{graphemes, is_grapheme_break}
use Rattle.unicode_width.specs.Width.{char_width}

-- the text left of the cursor and the text right of it, each split into clusters by itself; the greatest number of
-- characters; the first cluster that is shown; whether a paste is under way
pub record TypedText : Type 0 where
  pub before : List ℕ
  pub after : List ℕ
  pub most : ℕ
  pub first : ℕ
  pub pasting : Bool

-- the invariant of every input: the cursor is between two characters, there is no control character, and there are at
-- most `most` characters
pub record IsInput (text : List ℕ) (at most : ℕ) : Type 0 where
  pub place : IsCharBoundary text at
  pub plain : has_control text ≡ false
  pub few : length (chars text) ≤ most

-- the whole text
abbrev pub text_of : TypedText → List ℕ
text_of s = s.before ++ s.after

-- other texts on both sides of the cursor
abbrev pub with_sides : TypedText → List ℕ → List ℕ → TypedText
with_sides s before after = record s { before = before; after = after }

-- a text with the cursor at byte `at`
abbrev pub input_at : List ℕ → ℕ → ℕ → ℕ → Bool → TypedText
input_at text at most first pasting = record { before = take at text; after = drop at text; most = most; first = first; pasting = pasting }

-- an empty text
abbrev pub empty_input : ℕ → TypedText
empty_input most = record { before = []; after = []; most = most; first = 0; pasting = false }

-- UAX #29 has a boundary at the cursor, between the text before it (last character first) and the text after it
abbrev pub breaks_at_cursor : TypedText → Bool
breaks_at_cursor s = is_grapheme_break true (reverse (chars s.before)) (chars s.after)

-- at such a boundary the clusters of the text are those of both sides; elsewhere each side is still split by itself
abbrev pub SplitsAtCursor : TypedText → Type 0
SplitsAtCursor s = breaks_at_cursor s ≡ true → graphemes true (text_of s) ≡ graphemes true s.before ++ graphemes true s.after

-- ---- moves

-- the same text with the cursor at byte `at`
abbrev pub moved : TypedText → ℕ → TypedText
moved s at = with_sides s (take at (text_of s)) (drop at (text_of s))

abbrev pub to_left : TypedText → TypedText
to_left s = with_sides s (without_last s.before) (last_of s.before ++ s.after)

abbrev pub to_right : TypedText → TypedText
to_right s = with_sides s (s.before ++ first_of s.after) (without_first s.after)

abbrev pub to_start : TypedText → TypedText
to_start s = with_sides s [] (text_of s)

abbrev pub to_end : TypedText → TypedText
to_end s = with_sides s (text_of s) []

-- ---- edits

-- the text without its bytes `from` to `to`, and the cursor where they were
abbrev pub cut_out : TypedText → ℕ → ℕ → TypedText
cut_out s from to = let rest = take from (text_of s) ++ drop to (text_of s) in with_sides s (take from rest) (drop from rest)

abbrev pub without_before : TypedText → TypedText
without_before s = with_sides s (without_last s.before) s.after

abbrev pub without_after : TypedText → TypedText
without_after s = with_sides s s.before (without_first s.after)

abbrev pub cut_to_start : TypedText → TypedText
cut_to_start s = with_sides s [] s.after

abbrev pub cut_to_end : TypedText → TypedText
cut_to_end s = with_sides s s.before []

-- a text without the white space at its end and the word before it
abbrev pub without_word : List ℕ → List ℕ
without_word text = trimmed (is_of_kind false) (trimmed (is_of_kind true) text)

abbrev pub cut_word : TypedText → TypedText
cut_word s = with_sides s (without_word s.before) s.after

-- ---- characters

-- a character with columns of its own
abbrev pub has_columns : ℕ → Bool
has_columns c = nat_lt 0 (unwrap_or (char_width false c) 0)

-- the cluster at the end of a text, whose last character is `c`, has other characters too
abbrev pub ends_joined : List ℕ → ℕ → Bool
ends_joined text c = nat_lt (length (encode_utf8 c)) (length (last_of text))

-- `c` is no control character, and there is room for one more
abbrev pub has_room : TypedText → ℕ → Bool
has_room s c = not (is_control c) && nat_lt (length (chars (text_of s))) s.most

-- `c` is accepted: there is room for it, and it has columns or joins the cluster before the cursor
abbrev pub accepts : TypedText → ℕ → Bool
accepts s c = has_room s c && (has_columns c || ends_joined (s.before ++ encode_utf8 c) c)

abbrev pub inserted : TypedText → ℕ → TypedText
inserted s c = with_sides s (s.before ++ encode_utf8 c) s.after

-- the state after a character is typed: it is before the cursor if it is accepted
abbrev pub typed : TypedText → ℕ → TypedText
typed s c = if accepts s c then inserted s c else s

-- the state after several
unfoldable pub typed_all : TypedText → List ℕ → TypedText
typed_all s [] = s
typed_all s (c ∷ cs) = typed_all (typed s c) cs
