-- The cells of a row as a terminal should show them.
use Rattle.std.specs.Prelude.{ℕ, ◌+◌, ◌-◌, min, ◌==◌, List, [], ◌∷◌, length, slice_index_or, Option, None, Some, if◌then◌else◌}
use Rattle.tui_cells.specs.Buffer.{Screen}
use Rattle.tui_cells.specs.Cell.{Look, space}
use Rattle.tui_text.specs.Visible.{PlacedCell, step_of}
use Rattle.tui_terminal_model.specs.declared.widths.KnownWidths.{KnownWidths}
use Rattle.tui_terminal_model.specs.Symbols.{is_sendable}

-- What covers the next cells of a row: the next `left` cells lie under a symbol. They don't show, or show as `blank`.
pub record Cover : Type 0 where
  pub left : ℕ
  pub blank : Option Look

abbrev pub uncovered : Cover
uncovered = record { left = 0; blank = None }

-- a cell with a space in place of its symbol
abbrev pub blanked : Look → Look
blanked c = record c { symbol = space }

-- What shows in the column of a cell, if anything begins there; `room` is the number of columns left in the row. A
-- symbol that may not be sent shows as blanks in its columns and colours.
unfoldable pub seen : KnownWidths → ℕ → Look → Look
seen widths room c = if is_sendable widths room c.symbol then c else blanked c

unfoldable pub shown : KnownWidths → Cover → ℕ → Look → Option Look
shown widths cover room c = if cover.left == 0 then Some (seen widths room c) else cover.blank

-- what covers the cells after it
unfoldable pub covered : KnownWidths → ℕ → Look → Cover
covered widths room c = record {
  left = min (step_of c.symbol) room - 1;
  blank = if is_sendable widths room c.symbol then None else Some (blanked c);
}

unfoldable pub next_cover : KnownWidths → Cover → ℕ → Look → Cover
next_cover widths cover room c = if cover.left == 0 then covered widths room c else record cover { left = cover.left - 1 }

-- what shows in each column of a row
unfoldable pub shown_row : KnownWidths → Cover → List Look → List (Option Look)
shown_row widths cover [] = []
shown_row widths cover (c ∷ cs) =
    shown widths cover (1 + length cs) c ∷ shown_row widths (next_cover widths cover (1 + length cs) c) cs

-- the visible cells, and their columns
unfoldable pub pieces : ℕ → List (Option Look) → List PlacedCell
pieces column [] = []
pieces column (None ∷ cs) = pieces (column + 1) cs
pieces column (Some c ∷ cs) = record { column = column; cell = c } ∷ pieces (column + 1) cs

-- the visible cells of a row of a screen
abbrev pub row_pieces : KnownWidths → Screen → ℕ → List PlacedCell
row_pieces widths b y = pieces b.area.x (shown_row widths uncovered (slice_index_or b.rows y []))
