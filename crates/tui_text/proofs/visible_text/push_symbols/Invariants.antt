use Rattle.std.proofs.Common.{◌≡◌, ◌++◌, map}
use Rattle.std.specs.String.{string_bytes}
use Rattle.tui_text.specs.Visible.{joined_symbols, placed_cell}
use Rattle.tui_text.proofs.visible_text.push_symbols.Given as goal

-- the symbols so far are appended
abbrev pub invariant-loop-cell : goal.invariant-loop-cell
invariant-loop-cell l = string_bytes l.text ≡ string_bytes l.fn.text ++ joined_symbols (map placed_cell l.yielded)
