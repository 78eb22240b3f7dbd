use Rattle.std.proofs.Common.{◌≡◌, map, take}
use Rattle.tui_browse_run.specs.Pieces.{entry_of, piece_data}
use Rattle.tui_browse_run.specs.TextEntry.{text_entry_data}
use Rattle.tui_browse_run.proofs.text_entry.text_entries.Given as goal

abbrev pub invariant-pieces : goal.invariant-pieces
invariant-pieces l = map text_entry_data l.entries.items ≡ map (λ p. entry_of (piece_data p)) (take l.i l.pieces)
