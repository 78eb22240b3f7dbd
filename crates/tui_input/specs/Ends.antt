-- The grapheme clusters at the ends of a text.
use Rattle.std.specs.Prelude.{◌≡◌, ◌++◌, ℕ, ◌-◌, Bool, true, not, List, [], ◌∷◌, length, take, drop, reverse, if◌then◌else◌}
use Rattle.std.specs.List.{concat}
use Rattle.std.specs.Str.{IsUtf8}
use Rattle.tui_clusters.specs.Blank.{is_blank_text}
use Rattle.unicode_segmentation.specs.Grapheme.{graphemes}

-- all clusters but the last
abbrev pub but_last : List (List ℕ) → List (List ℕ)
but_last pieces = take (length pieces - 1) pieces

-- the last cluster alone, or none if there are none
abbrev pub last_alone : List (List ℕ) → List (List ℕ)
last_alone pieces = drop (length pieces - 1) pieces

-- a text without its last cluster, and that cluster (empty if the text is empty)
abbrev pub without_last : List ℕ → List ℕ
without_last text = concat (but_last (graphemes true text))

abbrev pub last_of : List ℕ → List ℕ
last_of text = concat (last_alone (graphemes true text))

-- a text without its first cluster, and that cluster (empty if the text is empty)
abbrev pub without_first : List ℕ → List ℕ
without_first text = concat (drop 1 (graphemes true text))

abbrev pub first_of : List ℕ → List ℕ
first_of text = concat (take 1 (graphemes true text))

-- the cluster is white space, or it isn't, as `blank` says
abbrev pub is_of_kind : Bool → List ℕ → Bool
is_of_kind blank cluster = if blank then is_blank_text cluster else not (is_blank_text cluster)

-- the clusters from the first that fails a test on
unfoldable pub skip : (List ℕ → Bool) → List (List ℕ) → List (List ℕ)
skip test [] = []
skip test (c ∷ cs) = if test c then skip test cs else c ∷ cs

-- a text without the clusters at its end that pass a test
abbrev pub trimmed : (List ℕ → Bool) → List ℕ → List ℕ
trimmed test text = concat (reverse (skip test (reverse (graphemes true text))))

-- `text` begins with `part`, and what follows is UTF-8 too
pub record IsPrefix (part text : List ℕ) : Type 0 where
  pub following : List ℕ
  pub whole : text ≡ part ++ following
  pub utf8 : IsUtf8 following
