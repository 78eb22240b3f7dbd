-- Which cells the writer sends.
use Rattle.std.specs.Prelude.{ℕ, zero, suc, ◌+◌, Bool, true, false, not, ◌&&◌, ◌==◌, nat_lt, List, [], ◌∷◌, slice_index_or, Option, None, Some, if◌then◌else◌}
use Rattle.tui_cells.specs.Attributes.{look_of}
use Rattle.tui_cells.specs.Cell.{Look, blank}
use Rattle.tui_cells.specs.contracts.attributes.AttributesPartialEq as attributes
use Rattle.tui_cells.specs.declared.attributes.Attributes.{Attributes}
use Rattle.tui_text.specs.Visible.{PlacedCell}
use Rattle.tui_terminal_model.specs.declared.widths.KnownWidths.{KnownWidths}
use Rattle.tui_terminal_model.specs.Pens.{attributes_of}
use Rattle.tui_terminal_laws.specs.declared.at.At.{At}
use Rattle.tui_terminal_laws.specs.declared.wanted.Wanted.{Wanted}
use Rattle.tui_terminal_laws.specs.declared.wanted.Wanted.TheVariants.{UncertainWidth, KnownWidth}
use Rattle.tui_terminal_laws.specs.Sending.{nothing_known}
use Rattle.tui_terminal_laws.specs.Sent.{is_calm, is_same, row_shown}

-- a symbol with attributes in a column
abbrev pub placed_at : ℕ → List ℕ → Attributes → PlacedCell
placed_at column symbol a = record { column = column; cell = look_of symbol a }

-- whether the cursor is known to be in a column
abbrev pub is_there : At → ℕ → Bool
is_there at column = at.placed && (at.column == column)

-- whether the cursor is known to be left of a column
abbrev pub is_before : At → ℕ → Bool
is_before at column = at.placed && nat_lt at.column column

-- whether the pen is known to have these attributes
abbrev pub is_pen : At → Attributes → Bool
is_pen at a = at.painted && attributes.TheImpl.ghosts.eq at.pen a

-- whether a cell shows what its column showed before
abbrev pub shows_same : Option Look → Look → Bool
shows_same None n = false
shows_same (Some o) n = is_same o n

-- whether no symbol of uncertain width appears or disappears
abbrev pub is_calm_both : KnownWidths → ℕ → List Look → List Look → Bool
is_calm_both widths left old new =
    is_calm widths left (row_shown widths old) (row_shown widths new) && is_calm widths left (row_shown widths new) (row_shown widths old)

-- a cell in a column, if it is to be sent
abbrev pub placed_if : Bool → ℕ → Look → List PlacedCell
placed_if wanted column c = if wanted then record { column = column; cell = c } ∷ [] else []

-- What is known after some cells of a row were sent. The last of them is right before the given place; at place 0 there
-- was none. `after` is the place of the cursor.
abbrev pub at_reached : ℕ → List Look → ℕ → ℕ → At
at_reached left row zero after = nothing_known
at_reached left row (suc k) after = record { column = left + after; placed = true; pen = attributes_of (slice_index_or row k blank); painted = true }

-- the cells of a row with symbols of uncertain width, or those with symbols of known width
abbrev pub pass_of : Bool → Wanted
pass_of uncertain = if uncertain then UncertainWidth else KnownWidth

abbrev pub is_of_pass : Bool → Bool → Bool
is_of_pass uncertain known_width = if uncertain then not known_width else known_width
