-- The first cluster to show: the cursor is visible, and no column stays empty that text could fill.
use Rattle.std.specs.Prelude.{
  ℕ,
  suc,
  ◌+◌,
  ◌-◌,
  ◌<◌,
  ◌≤◌,
  min,
  max,
  nat_le,
  nat_lt,
  true,
  List,
  [],
  ◌∷◌,
  map,
  length,
  take,
  drop,
  sum_by,
  Option,
  unwrap_or,
  if◌then◌else◌,
}
use Rattle.tui_clusters.specs.Width.{width_of}
use Rattle.tui_input.specs.State.{TypedText}
use Rattle.tui_layout.specs.Window.{distance}
use Rattle.unicode_segmentation.specs.Grapheme.{graphemes}

-- the clusters of a text as they are shown: each as it is, or as the mask
abbrev pub shown : Option (List ℕ) → List ℕ → List (List ℕ)
shown mask text = map (unwrap_or mask) (graphemes true text)

-- the columns of clusters together
abbrev pub columns : List (List ℕ) → ℕ
columns pieces = sum_by width_of pieces

-- the columns of the clusters from index `first` on
abbrev pub columns_from : List (List ℕ) → ℕ → ℕ
columns_from pieces first = columns (drop first pieces)

-- the columns that are reserved for the cursor: those of the cluster right of it, but at least one
abbrev pub cursor_columns : Option (List ℕ) → TypedText → ℕ
cursor_columns mask s = max (columns (take 1 (shown mask s.after))) 1

-- the column of the cursor, counted from the first cluster that is shown
abbrev pub cursor_column : Option (List ℕ) → TypedText → ℕ
cursor_column mask s = columns_from (shown mask s.before) s.first

-- `first` may be the first cluster in `width` columns
pub record IsValidFirst (mask : Option (List ℕ)) (width : ℕ) (s : TypedText) (first : ℕ) : Type 0 where
  pub within : first ≤ length (shown mask s.before)
  -- the columns that are reserved for the cursor are visible
  pub fits : columns_from (shown mask s.before) first ≤ width - cursor_columns mask s
  -- from any earlier cluster on the text would fill all columns, and leave none after it for the cursor
  pub filled : (other : ℕ) → other < first → width ≤ columns_from (shown mask s.before) other + columns (shown mask s.after)

-- of all clusters that may be first, this one is the nearest to the old one
pub record MovesLeast (mask : Option (List ℕ)) (width : ℕ) (s : TypedText) (first : ℕ) : Type 0 where
  pub is_valid : IsValidFirst mask width s first
  pub least : (other : ℕ) → IsValidFirst mask width s other → distance first s.first ≤ distance other s.first

-- a drawing in `width` columns moves the first cluster as little as possible: the cursor is visible, and so is the
-- whole cluster right of it, unless that is too wide
pub record IsScrolled (mask : Option (List ℕ)) (width : ℕ) (old new : TypedText) : Type 0 where
  pub moves : MovesLeast mask width old new.first
  pub seen : 0 < width → cursor_column mask new < width
  pub whole : cursor_columns mask old ≤ width → cursor_column mask new + cursor_columns mask old ≤ width

-- ---- which cluster that is

-- the first index from which on clusters fit in `room` columns
unfoldable pub start_in : ℕ → List (List ℕ) → ℕ
start_in room [] = 0
start_in room (c ∷ cs) = if nat_le (columns (c ∷ cs)) room then 0 else suc (start_in room cs)

-- the least index that may be first
abbrev pub lowest : Option (List ℕ) → ℕ → TypedText → ℕ
lowest mask width s = start_in (width - cursor_columns mask s) (shown mask s.before)

-- the greatest one: the index from which on the whole text fits with a column after it, or else that of the cluster
-- right of the cursor
abbrev pub highest : Option (List ℕ) → ℕ → TypedText → ℕ
highest mask width s =
    let following = columns (shown mask s.after) in
    if nat_lt following width then start_in (width - 1 - following) (shown mask s.before) else length (shown mask s.before)

-- the same text and cursor, with another first cluster
abbrev pub with_first : TypedText → ℕ → TypedText
with_first s first = record s { first = first }

-- the state after a drawing in `width` columns
abbrev pub scrolled : Option (List ℕ) → ℕ → TypedText → TypedText
scrolled mask width s = with_first s (min (max s.first (lowest mask width s)) (highest mask width s))
