-- The first line of a text.
use Rattle.std.specs.List.{concat}
use Rattle.std.specs.Prelude.{◌≡◌, ℕ, Bool, true, if◌then◌else◌, ◌||◌, List, [], ◌∷◌, ◌++◌, filter, nat_eq, nat_le}
use Rattle.std.specs.Str.{IsUtf8}
use Rattle.std.specs.Cmp.Lexicographic.{pointwise}
use Rattle.tui_clusters.specs.Width.{width_of}
use Rattle.tui_clusters.specs.Shown.{is_shown}
use Rattle.unicode_segmentation.specs.Grapheme.{graphemes}

-- a newline, with or without a carriage return before it
abbrev pub is_newline : List ℕ → Bool
is_newline cluster = pointwise nat_eq cluster (10 ∷ []) || pointwise nat_eq cluster (13 ∷ 10 ∷ [])

-- the clusters before the first newline
abbrev pub line_clusters : List (List ℕ) → List (List ℕ)
line_clusters [] = []
line_clusters (c ∷ cs) = if is_newline c then [] else c ∷ line_clusters cs

-- the clusters after the first newline
abbrev pub after_newline : List (List ℕ) → List (List ℕ)
after_newline [] = []
after_newline (c ∷ cs) = if is_newline c then cs else after_newline cs

-- what is shown of the text's first line in lines of w columns: its clusters without a control character that are not
-- wider than w
abbrev pub shown_in : ℕ → List ℕ → List (List ℕ)
shown_in w text = filter (λ c. nat_le (width_of c) w) (filter is_shown (line_clusters (graphemes true text)))

-- the text after its first line
abbrev pub text_after_line : List ℕ → List ℕ
text_after_line text = concat (after_newline (graphemes true text))

-- the text ends with `rest`, and this begins within the first line
pub record GoesOnInLine (text rest : List ℕ) : Type 0 where
  pub front : List ℕ
  pub whole : text ≡ front ++ rest
  pub utf8 : IsUtf8 rest
  pub same : text_after_line rest ≡ text_after_line text
