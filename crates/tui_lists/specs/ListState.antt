-- The state of a list, and what is written through a reference to its fields.
use Rattle.std.specs.Prelude.{ℕ, Option, None}
use Rattle.std.specs.contracts.option.Option.{the_row as OptionOf}
use Rattle.std.specs.Borrow.{Fml, Lends, MutBor, usize}
use Rattle.tui_lists.specs.declared.list.state.ListState.{ListState}
use Rattle.tui_lists.specs.contracts.list.state.ListState.{the_row}

-- the state of a list that begins at its first item and has none selected
abbrev pub default_state : ListState
default_state = record { offset = 0; selected = None }

-- the state with another offset
abbrev pub with_offset : ListState → ℕ → ListState
with_offset s offset = record s { offset = offset }

-- the state with another selection
abbrev pub with_selected : ListState → Option ℕ → ListState
with_selected s selected = record s { selected = selected }

-- what is last written through the reference becomes the offset
abbrev pub BorrowsOffset : MutBor ListState → MutBor ℕ → Fml
BorrowsOffset s r = Lends the_row usize s r (with_offset s.now)

-- what is last written through the reference becomes the selection
abbrev pub BorrowsSelected : MutBor ListState → MutBor (Option ℕ) → Fml
BorrowsSelected s r = Lends the_row (OptionOf usize) s r (with_selected s.now)
