-- The visible cells of a row.
use Rattle.std.specs.Prelude.{ℕ, zero, suc, ◌+◌, ◌-◌, max, List, [], ◌∷◌, drop, flat_map}
use Rattle.std.specs.Borrow.{Bor}
use Rattle.tui_cells.specs.Cell.{Look}
use Rattle.tui_clusters.specs.Width.{width_of}
use Rattle.tui_text.specs.declared.visible.VisibleCells.{VisibleCells}

-- the columns from a visible cell to the next one: its width, but at least 1
unfoldable pub step_of : List ℕ → ℕ
step_of symbol = max (width_of symbol) 1

-- a cell and its column
pub record PlacedCell : Type 0 where
  pub column : ℕ
  pub cell : Look

-- the visible cells, in columns from a given one on, if a wide symbol before them hides this many cells
unfoldable pub visible_from : ℕ → ℕ → List Look → List PlacedCell
visible_from column hidden [] = []
visible_from column zero (c ∷ cs) = record { column = column; cell = c } ∷ visible_from (column + 1) (step_of c.symbol - 1) cs
visible_from column (suc hidden) (c ∷ cs) = visible_from (column + 1) hidden cs

-- the visible cells of a row
abbrev pub visible : List Look → List PlacedCell
visible row = visible_from 0 0 row

-- the symbols of cells, joined
abbrev pub joined_symbols : List PlacedCell → List ℕ
joined_symbols cells = flat_map (λ p. p.cell.symbol) cells

-- the symbols of the visible cells of a row, joined
abbrev pub symbols_in : List Look → List ℕ
symbols_in row = joined_symbols (visible row)

-- the cells that are still to come
unfoldable pub visible_left : VisibleCells → List PlacedCell
visible_left s = visible_from s.column 0 (drop s.column s.row.now)

-- a cell with its column, as the iterator yields it
abbrev pub placed_cell : ℕ × Bor Look → PlacedCell
placed_cell item = record { column = item.0; cell = item.1.now }
