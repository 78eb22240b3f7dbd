-- The window of a scrolled list, defined by the offsets that show the selected item.
use Rattle.std.specs.Prelude.{ℕ, ◌≡◌, ◌+◌, ◌-◌, ◌<◌, ◌≤◌, min, List, length, slice_index, Option, Some, None}
use Rattle.tui_layout.specs.Sums.{total}
use Rattle.tui_layout.specs.declared.window.Window.{Window}

-- the index after the p items that follow item s, or after the last item
abbrev pub end_around : List ℕ → ℕ → ℕ → ℕ
end_around heights s p = min (length heights) (s + p + 1)

-- item s and p items on each side of it fit in the height, as far as there are that many
abbrev pub FitsAround : List ℕ → ℕ → ℕ → ℕ → Type 0
FitsAround heights height s p = total heights (s - p) (end_around heights s p) ≤ height

-- p is the greatest number, up to the requested one and the number of items, with which item s fits
pub record IsPadding (heights : List ℕ) (height s requested p : ℕ) : Type 0 where
  pub within : p ≤ requested
  pub most : p ≤ length heights
  pub fits : FitsAround heights height s p
  pub greatest : (q : ℕ) → q ≤ requested → q ≤ length heights → FitsAround heights height s q → q ≤ p

-- with this offset item s is visible with its padding
pub record ShowsSelected (heights : List ℕ) (height s p offset : ℕ) : Type 0 where
  pub before : offset ≤ s - p
  pub fits : total heights offset (end_around heights s p) ≤ height

-- how far two indices are apart
abbrev pub distance : ℕ → ℕ → ℕ
distance a b = (a - b) + (b - a)

-- among the offsets that show item s with its padding, `first` is nearest to the old one
pub record IsNearest (heights : List ℕ) (height s p old first : ℕ) : Type 0 where
  pub shows_selected : ShowsSelected heights height s p first
  pub least : (other : ℕ) → ShowsSelected heights height s p other → distance first old ≤ distance other old

-- a selected item that is taller than the height comes first; otherwise the offset moves as little as possible to show
-- it with its widest padding
pub record IsFirstForSelected (heights : List ℕ) (height old s requested first : ℕ) : Type 0 where
  pub tall : height < slice_index heights s → first ≡ s
  pub shown : slice_index heights s ≤ height → (p : ℕ) × (IsPadding heights height s requested p) × (IsNearest heights height s p old first)

-- without a selection the offset stays; a selection past the end counts as the last item
abbrev pub IsFirstFrom : List ℕ → ℕ → ℕ → Option ℕ → ℕ → ℕ → Type 0
IsFirstFrom heights height old None requested first = first ≡ old
IsFirstFrom heights height old (Some s) requested first = IsFirstForSelected heights height old (min s (length heights - 1)) requested first

-- the first visible item: 0 without items; an offset past the end counts as the last item
pub record IsFirst (heights : List ℕ) (height offset : ℕ) (selected : Option ℕ) (requested first : ℕ) : Type 0 where
  pub empty : length heights ≡ 0 → first ≡ 0
  pub placed : 0 < length heights → IsFirstFrom heights height (min offset (length heights - 1)) selected requested first

-- the greatest index up to which the items from the first on fit
pub record IsEnd (heights : List ℕ) (height first last : ℕ) : Type 0 where
  pub within : last ≤ length heights
  pub fits : total heights first last ≤ height
  pub greatest : (m : ℕ) → m ≤ length heights → total heights first m ≤ height → m ≤ last

-- the visible items: the first one, and the index after the last
pub record IsWindow (heights : List ℕ) (height offset : ℕ) (selected : Option ℕ) (requested : ℕ) (w : Window) : Type 0 where
  pub begins : IsFirst heights height offset selected requested w.first
  pub ends : IsEnd heights height w.first w.end

-- the selection after drawing: an index past the end becomes the last one
abbrev pub cut_selection : List ℕ → Option ℕ → Option ℕ
cut_selection heights None = None
cut_selection heights (Some s) = Some (min s (length heights - 1))
