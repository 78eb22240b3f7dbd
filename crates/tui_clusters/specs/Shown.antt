-- The clusters of a text that are shown.
use Rattle.std.specs.Prelude.{ℕ, Bool, true, List, [], ◌∷◌, chars, filter, not}
use Rattle.std.specs.Char.{is_control}
use Rattle.std.specs.List.{list_any}
use Rattle.unicode_segmentation.specs.Grapheme.{graphemes}

-- whether a text holds a control character, U+0000 to U+001F or U+007F to U+009F
unfoldable pub has_control : List ℕ → Bool
has_control text = list_any is_control (chars text)

-- whether a cluster is drawn: it holds no control character
abbrev pub is_shown : List ℕ → Bool
is_shown cluster = not (has_control cluster)

-- the extended grapheme clusters of a text by UAX #29, without those that hold a control character
abbrev pub clusters : List ℕ → List (List ℕ)
clusters text = filter is_shown (graphemes true text)

-- a text of one byte
abbrev pub one_byte : ℕ → List ℕ
one_byte b = b ∷ []
