-- Rows of symbols of known width that fit.
use Rattle.std.specs.Prelude.{ℕ, ◌+◌, Bool, true, ◌&&◌, nat_le, List, [], ◌∷◌, length}
use Rattle.tui_cells.specs.Cell.{Look}
use Rattle.tui_text.specs.Visible.{step_of}
use Rattle.tui_terminal_model.specs.declared.widths.KnownWidths.{KnownWidths}
use Rattle.tui_terminal_model.specs.Symbols.{has_known_width}

-- whether the symbol of a cell has a known width, and fits with this many columns left in the row
abbrev pub is_fit : KnownWidths → ℕ → Look → Bool
is_fit widths room c = has_known_width widths c.symbol && nat_le (step_of c.symbol) room

-- whether every cell of a row is such a cell
unfoldable pub are_fit : KnownWidths → List Look → Bool
are_fit widths [] = true
are_fit widths (c ∷ cs) = is_fit widths (1 + length cs) c && are_fit widths cs
