-- Which bars of a chart are shown, and where. Places are columns of a vertical chart and rows of a horizontal one.
use Rattle.std.specs.Prelude.{ℕ, ◌+◌, ◌-◌, ◌*◌, ◌/◌, ◌==◌, min, nat_lt, List, [], ◌∷◌, length, take, if◌then◌else◌}
use Rattle.tui_frames.specs.Space.{past}
use Rattle.tui_bars.specs.BarChart.{BarChartData, BarData, GroupData, group_data}
use Rattle.tui_bars.specs.declared.shown_group.ShownGroup.{ShownGroup}

-- the columns or rows that n bars take, with the gaps between them
abbrev pub extent_of : BarChartData → ℕ → ℕ
extent_of c n = n * c.width + (n - 1) * c.gap

-- how many of n bars are shown in a space: all of them if the space is larger than they need, otherwise as many as fit
abbrev pub shown_in : BarChartData → ℕ → ℕ → ℕ
shown_in c space n = if nat_lt (extent_of c n) space then n else min n ((space + c.gap) / (c.width + c.gap))

-- the space for the next group; it is 0 if the bars did not all fit, so no bar of a later group is shown
abbrev pub space_after : BarChartData → ℕ → ℕ → ℕ
space_after c space n = if nat_lt (extent_of c n) space then space - (extent_of c n + c.group_gap + c.gap) else 0

-- the place of the next group
abbrev pub place_after : BarChartData → ℕ → ℕ → ℕ
place_after c place n = past (past place (n * (c.width + c.gap))) c.group_gap

-- the place of the next bar
abbrev pub step_of : BarChartData → ℕ → ℕ
step_of c place = past (past place c.width) c.gap

-- a group, how many of its bars are shown, and the place of the first
pub record Shown : Type 0 where
  pub at : ℕ
  pub count : ℕ
  pub group : GroupData

-- a shown group of the code as plain data
abbrev pub shown_data : ShownGroup → Shown
shown_data s = record { at = s.at; count = s.count; group = group_data s.group.now }

-- the groups of which a bar is shown, in a space from a place on
unfoldable pub shown_groups : BarChartData → ℕ → ℕ → List GroupData → List Shown
shown_groups c at space [] = []
shown_groups c at space (g ∷ gs) =
    let n = shown_in c space (length g.bars) in
    let rest = shown_groups c (place_after c at n) (space_after c space (length g.bars)) gs in
    if n == 0 then rest else (record { at = at; count = n; group = g } ∷ rest)

-- a bar and its place
pub record PlacedBar : Type 0 where
  pub at : ℕ
  pub bar : BarData

-- bars side by side from a place on
unfoldable pub placed_bars : BarChartData → ℕ → List BarData → List PlacedBar
placed_bars c at [] = []
placed_bars c at (b ∷ bs) = record { at = at; bar = b } ∷ placed_bars c (step_of c at) bs

-- the bars of a group that are shown
abbrev pub bars_of : BarChartData → Shown → List PlacedBar
bars_of c s = placed_bars c s.at (take s.count s.group.bars)
