-- The columns of a length, by their indices.
use Rattle.std.specs.Prelude.{
  ℕ,
  ◌≡◌,
  ◌+◌,
  ◌-◌,
  ◌*◌,
  ◌/◌,
  ◌<◌,
  ◌≤◌,
  ◌==◌,
  min,
  List,
  length,
  map,
  sum_by,
  sum,
  take,
  All,
  AllPairs,
  Any,
  ◌⊎◌,
  if◌then◌else◌,
}
use Rattle.std.specs.List.{enumerate_from}
use Rattle.tui_layout.specs.Constraint.{requested_width}
use Rattle.tui_layout.specs.Sharing.{sharing_of, weight}
use Rattle.tui_layout.specs.declared.constraint.Constraint.{Constraint}
use Rattle.tui_layout.specs.declared.constraint.Constraint.TheVariants.{Fill, Min}
use Rattle.tui_layout.specs.declared.flex.Flex.{Flex}
use Rattle.tui_layout.specs.declared.flex.Flex.TheVariants.{Legacy, Start, End, Center, SpaceBetween, SpaceEvenly, SpaceAround}
use Rattle.tui_layout.specs.declared.plan.ColumnPlan.{ColumnPlan}
use Rattle.tui_layout.specs.declared.segment.Segment.{Segment}

-- the length without the spacings between its columns
abbrev pub space_of : ℕ → ℕ → List Constraint → ℕ
space_of size spacing cs = size - spacing * (length cs - 1)

-- the rest is what remains of the space after each column takes what it asks for
abbrev pub plan_of : ℕ → ℕ → List Constraint → Flex → ColumnPlan
plan_of size spacing cs flex =
    let sharing = sharing_of cs in record {
      length = size;
      spacing = spacing;
      flex = flex;
      count = length cs;
      space = space_of size spacing cs;
      rest = space_of size spacing cs - sum_by (requested_width size) cs;
      sharing = sharing;
      weights = sum_by (weight sharing) cs;
    }

-- after the columns `before`, a column takes the smaller of what it asks for and what they left
abbrev pub taken_width : ColumnPlan → List Constraint → Constraint → ℕ
taken_width plan before c = min (requested_width plan.length c) (plan.space - sum_by (requested_width plan.length) before)

-- how much of the rest goes to columns that have these weights together
abbrev pub part : ColumnPlan → ℕ → ℕ
part plan weights = plan.rest * weights / plan.weights

-- if no constraint shares the rest, Legacy gives it to the last column
abbrev pub last_share : Flex → ColumnPlan → ℕ → ℕ
last_share Legacy plan i = if i + 1 == plan.count then plan.rest else 0
last_share _ plan i = 0

-- what column i gets of the rest, if it weighs w and the columns before it weigh `before`
unfoldable pub share : ColumnPlan → ℕ → ℕ → ℕ → ℕ
share plan i before w = if plan.weights == 0 then last_share plan.flex plan i else part plan (before + w) - part plan before

-- how far a flex moves column i, if no constraint shares the rest
abbrev pub flex_shift : Flex → ColumnPlan → ℕ → ℕ
flex_shift Legacy plan i = 0
flex_shift Start plan i = 0
flex_shift End plan i = plan.rest
flex_shift Center plan i = plan.rest / 2
flex_shift SpaceBetween plan i = if plan.count == 1 then 0 else plan.rest * i / (plan.count - 1)
flex_shift SpaceEvenly plan i = plan.rest * (i + 1) / (plan.count + 1)
flex_shift SpaceAround plan i = plan.rest * (2 * i + 1) / (2 * plan.count)

-- how far column i is moved
unfoldable pub shift : ColumnPlan → ℕ → ℕ
shift plan i = if plan.weights == 0 then flex_shift plan.flex plan i else 0

-- the width of column i: what it takes, plus its share of the rest
abbrev pub width_at : ColumnPlan → List Constraint → ℕ → Constraint → ℕ
width_at plan cs i c = taken_width plan (take i cs) c + share plan i (sum_by (weight plan.sharing) (take i cs)) (weight plan.sharing c)

-- the widths of all columns
abbrev pub widths_of : ColumnPlan → List Constraint → List ℕ
widths_of plan cs = map (λ (i, c). width_at plan cs i c) (enumerate_from 0 cs)

-- Column i begins after the widths and the spacings before it, moved by its shift. All is cut at the length.
abbrev pub column_at : ColumnPlan → List Constraint → ℕ → Constraint → Segment
column_at plan cs i c = record {
  start = min (sum (take i (widths_of plan cs)) + i * plan.spacing + shift plan i) plan.length;
  width = min (width_at plan cs i c) plan.length;
}

-- all columns, in order
abbrev pub columns_in : ColumnPlan → List Constraint → List Segment
columns_in plan cs = map (λ (i, c). column_at plan cs i c) (enumerate_from 0 cs)

-- the columns of a length: its size, the spacing between two, their constraints and the flex
unfoldable pub columns_of : ℕ → ℕ → List Constraint → Flex → List Segment
columns_of size spacing cs flex = columns_in (plan_of size spacing cs flex) cs

-- b begins where a ends or later, and later by the spacing if both have a width
pub record IsBefore (spacing : ℕ) (a b : Segment) : Type 0 where
  pub apart : a.start + a.width ≤ b.start
  pub spaced : 0 < a.width → 0 < b.width → a.start + a.width + spacing ≤ b.start

-- all columns lie in the length, in order and without overlap
pub record AreInOrder (size spacing : ℕ) (columns : List Segment) : Type 0 where
  pub inside : All (λ c. c.start + c.width ≤ size) columns
  pub order : AllPairs (IsBefore spacing) columns

-- a Fill and a Min take part in the rest
abbrev pub Shares : Constraint → Type 0
Shares (Fill weight) = Unit {0}
Shares (Min width) = Unit {0}
Shares _ = ⊥

-- the rest goes to a Fill, to a Min or, with Legacy, to the last column
abbrev pub RestIsShared : List Constraint → Flex → Type 0
RestIsShared cs flex = Any Shares cs ⊎ (flex ≡ Legacy) × (0 < length cs)
