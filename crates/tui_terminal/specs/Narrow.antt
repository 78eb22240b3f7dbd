-- Symbols of one column.
use Rattle.std.specs.Prelude.{ℕ, Bool, ◌&&◌, ◌==◌, List}
use Rattle.tui_text.specs.Visible.{step_of}
use Rattle.tui_terminal_model.specs.declared.widths.KnownWidths.{KnownWidths}
use Rattle.tui_terminal_model.specs.Symbols.{has_known_width}

-- whether a symbol has a known width and takes one column
abbrev pub is_narrow : KnownWidths → List ℕ → Bool
is_narrow widths symbol = has_known_width widths symbol && (step_of symbol == 1)
