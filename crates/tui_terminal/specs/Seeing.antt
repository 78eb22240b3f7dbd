-- What shows in a row, as the writer represents it.
use Rattle.std.specs.Prelude.{Option, None, Some, if◌then◌else◌}
use Rattle.tui_cells.specs.Attributes.{look_of}
use Rattle.tui_cells.specs.Cell.{Look, space}
use Rattle.tui_cells.specs.declared.attributes.Attributes.{Attributes}
use Rattle.tui_terminal_model.specs.Pieces.{Cover}
use Rattle.tui_terminal.specs.declared.seeing.Under.{Under}
use Rattle.tui_terminal.specs.declared.seeing.Seen.{Seen}

-- a blank with some attributes
abbrev pub blank_of : Option Attributes → Option Look
blank_of None = None
blank_of (Some a) = Some (look_of space a)

-- what covers the next cells
abbrev pub cover_of : Under → Cover
cover_of u = record { left = u.left; blank = blank_of u.blank }

-- its symbol and attributes as a cell
abbrev pub look_in : Seen → Look
look_in s = look_of s.symbol.now s.attributes

-- what shows in a column
abbrev pub shown_in : Seen → Option Look
shown_in s = if s.shows then Some (look_in s) else None
