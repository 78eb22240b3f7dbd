-- Binary searches, and how many sums they look up.
use Rattle.std.specs.Prelude.{ℕ, ◌+◌, ◌-◌, ◌*◌, ◌^◌, ◌<◌, ◌≤◌, List, length}
use Rattle.tui_layout.specs.Sums.{total}
use Rattle.tui_layout.specs.Window.{ShowsSelected, end_around}
use Rattle.tui_layout.specs.declared.binary_search.SearchRange.{SearchRange}
use Rattle.tui_layout.specs.declared.binary_search.SearchRange.TheVariants.{Around, From, Back}

-- the total height of the items that m stands for
abbrev pub sum_at : List ℕ → SearchRange → ℕ → ℕ
sum_at heights (Around s) m = total heights (s - m) (end_around heights s m)
sum_at heights (From first) m = total heights first m
sum_at heights (Back latest last) m = total heights (latest - m) last

-- m stands for items of the list
abbrev pub IsProbe : List ℕ → SearchRange → ℕ → Type 0
IsProbe heights (Around s) m = s < length heights
IsProbe heights (From first) m = (first ≤ m) × (m ≤ length heights)
IsProbe heights (Back latest last) m = (m ≤ latest) × (latest ≤ last) × (last ≤ length heights)

-- m is the greatest number from `least` to `most` whose items fit
pub record IsGreatestFit (heights : List ℕ) (reach : SearchRange) (height least most m : ℕ) : Type 0 where
  pub above : least ≤ m
  pub within : m ≤ most
  pub fits : sum_at heights reach m ≤ height
  pub greatest : (q : ℕ) → least ≤ q → q ≤ most → sum_at heights reach q ≤ height → q ≤ m

-- the lowest offset that shows the selected item with its padding
pub record IsLowest (heights : List ℕ) (height s p lowest : ℕ) : Type 0 where
  pub shows_selected : ShowsSelected heights height s p lowest
  pub least : (offset : ℕ) → ShowsSelected heights height s p offset → lowest ≤ offset

-- a search over n items took d steps, with 2 ^ d at most 2 n
pub record IsSearchCost (n before after : ℕ) : Type 0 where
  pub grows : before ≤ after
  pub cost : 2 ^ (after - before) ≤ 2 * n

-- at most 1 + 3 d steps for a d with 2 ^ d at most 2 n
pub record IsProbeBound (n before after : ℕ) : Type 0 where
  pub d : ℕ
  pub small : 2 ^ d ≤ 2 * n
  pub grows : before ≤ after
  pub bound : after ≤ before + (1 + 3 * d)
