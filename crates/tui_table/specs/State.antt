-- The state of a table, and what is written through a reference to its fields.
use Rattle.std.specs.Prelude.{ℕ, Option, Some, None}
use Rattle.std.specs.Borrow.{Fml, Lends, MutBor, usize}
use Rattle.std.specs.contracts.prelude.Option.{the_row as OptionOf}
use Rattle.tui_table.specs.declared.state.TableState.{TableState}
use Rattle.tui_table.specs.contracts.state.TableState.{the_row}

-- offset 0, with nothing selected
abbrev pub default_state : TableState
default_state = record { offset = 0; selected = None; selected_column = None }

-- the row of a selected cell
abbrev pub row_of_cell : Option (ℕ × ℕ) → Option ℕ
row_of_cell None = None
row_of_cell (Some cell) = Some cell.0

-- the column of a selected cell
abbrev pub column_of_cell : Option (ℕ × ℕ) → Option ℕ
column_of_cell None = None
column_of_cell (Some cell) = Some cell.1

-- the selected cell, if both a row and a column are selected
abbrev pub selected_cell : Option ℕ → Option ℕ → Option (ℕ × ℕ)
selected_cell (Some row) (Some column) = Some (row, column)
selected_cell _ _ = None

-- what is last written through the reference becomes the offset
abbrev pub BorrowsOffset : MutBor TableState → MutBor ℕ → Fml
BorrowsOffset s r = Lends the_row usize s r (λ offset. record s.now { offset = offset })

-- what is last written through the reference becomes the selected row
abbrev pub BorrowsSelected : MutBor TableState → MutBor (Option ℕ) → Fml
BorrowsSelected s r = Lends the_row (OptionOf usize) s r (λ selected. record s.now { selected = selected })

-- what is last written through the reference becomes the selected column
abbrev pub BorrowsColumn : MutBor TableState → MutBor (Option ℕ) → Fml
BorrowsColumn s r = Lends the_row (OptionOf usize) s r (λ column. record s.now { selected_column = column })
