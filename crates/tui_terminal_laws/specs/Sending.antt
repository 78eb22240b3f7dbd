-- The commands that send cells.
use Rattle.std.specs.Prelude.{ℕ, ◌+◌, true, false, ◌&&◌, ◌==◌, nat_lt, List, [], ◌∷◌, ◌++◌, map, if◌then◌else◌}
use Rattle.tui_cells.specs.Buffer.{Screen}
use Rattle.tui_cells.specs.Cell.{Look, blank}
use Rattle.tui_cells.specs.contracts.attributes.AttributesPartialEq as attributes
use Rattle.tui_cells.specs.declared.attributes.Attributes.{Attributes}
use Rattle.tui_text.specs.Visible.{PlacedCell, step_of}
use Rattle.tui_terminal_model.specs.declared.cursor.Cursor.{Cursor}
use Rattle.tui_terminal_model.specs.declared.depth.Depth.{Depth}
use Rattle.tui_terminal_model.specs.declared.output.Output.{Output}
use Rattle.tui_terminal_model.specs.declared.widths.KnownWidths.{KnownWidths}
use Rattle.tui_terminal_model.specs.Calls.{mending}
use Rattle.tui_terminal_model.specs.Pens.{adds_of, attributes_of, only_adds, paints_of, pen_of}
use Rattle.tui_terminal_model.specs.Sends.{closing, opening}
use Rattle.tui_terminal_model.specs.Symbols.{has_known_width}
use Rattle.tui_terminal_model.specs.Terminal.{Command, Pen, reset_modes, place, across, print}
use Rattle.tui_terminal_laws.specs.declared.at.At.{At}
use Rattle.tui_terminal_laws.specs.Sent.{in_full, row_sent, row_shown}

-- nothing is known of the terminal
abbrev pub nothing_known : At
nothing_known = record { column = 0; placed = false; pen = attributes_of blank; painted = false }

-- the cursor is moved from elsewhere: within the row, if it is known to be further left
abbrev pub moves_on : ℕ → At → ℕ → List Command
moves_on y at column = if at.placed && nat_lt at.column column then across column ∷ [] else place column y ∷ []

-- the cursor is moved, unless it is known to be there
abbrev pub moves : ℕ → At → PlacedCell → List Command
moves y at p = if at.placed && (at.column == p.column) then [] else moves_on y at p.column

-- the commands that turn a pen into another one: only what is added, if nothing is taken away
abbrev pub repaints : Pen → Pen → List Command
repaints from pen = if only_adds from pen then adds_of from pen else paints_of pen

abbrev pub paints_on : Depth → At → Attributes → List Command
paints_on depth at a = if at.painted then repaints (pen_of depth at.pen) (pen_of depth a) else paints_of (pen_of depth a)

-- the pen is set, unless it is known to be this one
abbrev pub paints : Depth → At → PlacedCell → List Command
paints depth at p =
    if at.painted && attributes.TheImpl.ghosts.eq at.pen (attributes_of p.cell) then [] else paints_on depth at (attributes_of p.cell)

-- the commands that send one cell of a row
abbrev pub send_one : Depth → ℕ → At → PlacedCell → List Command
send_one depth y at p = moves y at p ++ (paints depth at p ++ print p.cell.symbol ∷ [])

-- what is known then: the cursor's column is not known after a symbol of uncertain width
abbrev pub next_at : KnownWidths → PlacedCell → At
next_at widths p =
    record { column = p.column + step_of p.cell.symbol; placed = has_known_width widths p.cell.symbol; pen = attributes_of p.cell; painted = true }

-- the commands that send some cells of a row, from the first to the last, and what is known afterwards
unfoldable pub send : Output → ℕ → At → List PlacedCell → List Command
send o y at [] = []
send o y at (p ∷ ps) = send_one o.depth y at p ++ send o y (next_at o.widths p) ps

unfoldable pub at_after : KnownWidths → At → List PlacedCell → At
at_after widths at [] = at
at_after widths at (p ∷ ps) = at_after widths (next_at widths p) ps

-- the commands that send some cells of each row; the first row has this number
unfoldable pub send_rows : Output → ℕ → List (List PlacedCell) → List Command
send_rows o y [] = []
send_rows o y (ps ∷ rows) = send o y nothing_known ps ++ send_rows o (y + 1) rows

-- what is sent of each row: the whole row, or what has changed
abbrev pub row_in_full : KnownWidths → ℕ → List Look → List PlacedCell
row_in_full widths left row = in_full widths left (row_shown widths row)

abbrev pub row_changes : KnownWidths → ℕ → List Look → List Look → List PlacedCell
row_changes widths left old new = row_sent widths left (row_shown widths old) (row_shown widths new)

unfoldable pub rows_sent : KnownWidths → ℕ → List (List Look) → List (List Look) → List (List PlacedCell)
rows_sent widths left (o ∷ os) (n ∷ ns) = row_changes widths left o n ∷ rows_sent widths left os ns
rows_sent widths left [] news = []
rows_sent widths left (o ∷ os) [] = []

-- the commands of a whole screen
abbrev pub frame : Output → Cursor → ℕ → List (List PlacedCell) → List Command
frame o cursor y rows = opening o ++ (send_rows o y rows ++ closing o cursor)

abbrev pub full : Output → Cursor → Screen → List Command
full o cursor b = reset_modes ∷ (mending o.widths b.area ++ frame o cursor b.area.y (map (row_in_full o.widths b.area.x) b.rows))

-- the commands of the change from one screen to another
abbrev pub change : Output → Cursor → Screen → Screen → List Command
change o cursor old new = frame o cursor new.area.y (rows_sent o.widths new.area.x old.rows new.rows)
