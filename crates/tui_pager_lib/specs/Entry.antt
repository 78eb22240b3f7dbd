-- An entry as plain data.
use Rattle.std.specs.Prelude.{ℕ, List}
use Rattle.tui_pager_lib.specs.declared.entry.Entry.{Entry}

-- an entry as plain data
pub record EntryData : Type 0 where
  pub title : List ℕ
  pub body : List ℕ

-- an entry of the code as plain data
abbrev pub entry_data : Entry → EntryData
entry_data e = record { title = e.title.now; body = e.body.now }
