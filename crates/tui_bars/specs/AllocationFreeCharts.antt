-- Bar charts that are drawn without allocating.
use Rattle.std.specs.Prelude.{⊤, ℕ, List, All, Option, None, Some, drop}
use Rattle.std.specs.Str.{IsCharBoundary}
use Rattle.tui_cells.specs.Cell.{IsAllocationFree}
use Rattle.tui_frames.specs.InBlock.{IsAllocationFreeIfBlock}
use Rattle.tui_layout.specs.declared.direction.Direction.{Direction}
use Rattle.tui_layout.specs.declared.direction.Direction.TheVariants.{Horizontal, Vertical}
use Rattle.tui_clusters.specs.Shown.{clusters}
use Rattle.tui_bars.specs.BarChart.{BarChartData, BarData, GroupData}
use Rattle.tui_bars.specs.Levels.{AreAllocationFreeLevels}
use Rattle.tui_bars.specs.LineGauge.{IsAllocationFreeLine}
use Rattle.tui_bars.specs.declared.plan.Pass.{Pass}
use Rattle.tui_bars.specs.declared.plan.Pass.TheVariants.{Columns, Texts, Rows}

-- the direction of the charts that this pass draws
abbrev pub direction_of : Pass → Direction
direction_of Columns = Vertical
direction_of Texts = Vertical
direction_of Rows = Horizontal

-- A value's text that is written without allocating. A horizontal chart may write the part from any character on. The
-- graphemes of that part are those of the text, unless a grapheme is cut in two: what is left of it may then join what
-- follows.
abbrev pub IsAllocationFreeText : Direction → List ℕ → Type 0
IsAllocationFreeText Vertical text = All IsAllocationFree (clusters text)
IsAllocationFreeText Horizontal text = (place : ℕ) → IsCharBoundary text place → All IsAllocationFree (clusters (drop place text))

-- no text of its own, or one that is written without allocating
abbrev pub IsAllocationFreeValue : Direction → Option (List ℕ) → Type 0
IsAllocationFreeValue direction None = ⊤
IsAllocationFreeValue direction (Some text) = IsAllocationFreeText direction text

-- a bar whose own texts are written without allocating
pub record IsAllocationFreeBar (direction : Direction) (b : BarData) : Type 0 where
  pub label : IsAllocationFreeLine b.label
  pub text : IsAllocationFreeValue direction b.text

-- a group whose label and bars are drawn without allocating
pub record IsAllocationFreeGroup (direction : Direction) (g : GroupData) : Type 0 where
  pub label : IsAllocationFreeLine g.label
  pub bars : All (IsAllocationFreeBar direction) g.bars

-- a chart that is drawn without allocating
pub record IsAllocationFreeChart (c : BarChartData) : Type 0 where
  pub block : IsAllocationFreeIfBlock c.block
  pub symbols : AreAllocationFreeLevels c.symbols
  pub groups : All (IsAllocationFreeGroup c.direction) c.groups
