-- An entry of a text as plain data.
use Rattle.std.specs.Prelude.{string_bytes}
use Rattle.tui_browse_run.specs.declared.text_entry.TextEntry.{TextEntry}
use Rattle.tui_pager_lib.specs.Entry.{EntryData}

-- an entry as plain data
abbrev pub text_entry_data : TextEntry → EntryData
text_entry_data e = record { title = string_bytes e.title; body = string_bytes e.body }
