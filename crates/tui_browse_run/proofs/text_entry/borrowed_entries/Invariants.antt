use Rattle.std.proofs.Common.{◌≡◌, map, take}
use Rattle.tui_browse_run.specs.TextEntry.{text_entry_data}
use Rattle.tui_browse_run.proofs.text_entry.borrowed_entries.Given as goal
use Rattle.tui_pager_lib.specs.Entry.{entry_data}

abbrev pub invariant-entries : goal.invariant-entries
invariant-entries l = map entry_data l.borrowed.items ≡ map text_entry_data (take l.i l.entries)
