-- Vertical bars: how much of their length a value fills, and the symbols of their cells.
use Rattle.std.specs.Prelude.{◌≡◌, ◌<◌, ◌≤◌, ℕ, zero, suc, ◌-◌, ◌*◌, ◌/◌, ◌==◌, min, List, [], ◌++◌, if◌then◌else◌}
use Rattle.tui_cells.specs.declared.rect.Rect.{Rect}
use Rattle.tui_cells.specs.declared.style.Style.{Style}
use Rattle.tui_cells.specs.Cell.{IsAllocationFree}
use Rattle.tui_cells.specs.Layers.{Layer}
use Rattle.tui_cells.specs.Symbols.{BarData as BarSymbols}
use Rattle.tui_frames.specs.Space.{past}
use Rattle.tui_bars.specs.Areas.{fill_layers}

-- how many eighths of a length a value fills, if the greatest value fills all of it
unfoldable pub ticks : ℕ → ℕ → ℕ → ℕ
ticks greatest value length = if greatest == 0 then 0 else min (8 * length) (value * (8 * length) / greatest)

-- ticks never fall as the value grows; they fill the length if the value reaches the greatest one and that is above 0
pub record TickLaws : Type 0 where
  pub monotone : (greatest value more length : ℕ) → value ≤ more → ticks greatest value length ≤ ticks greatest more length
  pub full : (greatest value length : ℕ) → 0 < greatest → greatest ≤ value → ticks greatest value length ≡ 8 * length

-- the symbol of a cell of which k eighths are still to be filled; from 8 on the cell is full
unfoldable pub level : BarSymbols → ℕ → List ℕ
level s k =
    if k == 0 then s.empty else
    if k == 1 then s.one_eighth else
    if k == 2 then s.one_quarter else
    if k == 3 then s.three_eighths else
    if k == 4 then s.half else
    if k == 5 then s.five_eighths else
    if k == 6 then s.three_quarters else
    if k == 7 then s.seven_eighths else s.full

-- row n of an area
abbrev pub row_at : Rect → ℕ → Rect
row_at area n = record area { y = past area.y n; height = 1 }

-- the first n rows of an area, from the last of them upwards; each takes up to 8 of the ticks that are left
unfoldable pub levels_layers : BarSymbols → Rect → Rect → Style → ℕ → ℕ → List Layer
levels_layers s clip area style left zero = []
levels_layers s clip area style left (suc n) = fill_layers clip (row_at area n) (level s left) style ++ levels_layers s clip area style (left - 8) n

-- a vertical bar over an area
abbrev pub vertical_bar_layers : BarSymbols → Rect → Rect → Style → ℕ → List Layer
vertical_bar_layers s clip area style filled = levels_layers s clip area style filled area.height

-- symbols that are stored in a cell without allocating
pub record AreAllocationFreeLevels (s : BarSymbols) : Type 0 where
  pub full : IsAllocationFree s.full
  pub seven_eighths : IsAllocationFree s.seven_eighths
  pub three_quarters : IsAllocationFree s.three_quarters
  pub five_eighths : IsAllocationFree s.five_eighths
  pub half : IsAllocationFree s.half
  pub three_eighths : IsAllocationFree s.three_eighths
  pub one_quarter : IsAllocationFree s.one_quarter
  pub one_eighth : IsAllocationFree s.one_eighth
  pub empty : IsAllocationFree s.empty
