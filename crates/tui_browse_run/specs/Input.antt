-- What a file means: its entries, or why there are none.
use Rattle.std.specs.Prelude.{◌≡◌, ℕ, List, map, None, Result, Ok, Err, IsUtf8, string_bytes}
use Rattle.serde_json.specs.Data.{Data}
use Rattle.tui_browse_run.specs.Arguments.{Name}
use Rattle.tui_browse_run.specs.Pieces.{AreAllPieces, HasMorePieces, PieceData, entry_of}
use Rattle.tui_browse_run.specs.declared.arguments.BrowseCommand.{BrowseCommand}
use Rattle.tui_browse_run.specs.declared.format.Format.{Format}
use Rattle.tui_browse_run.specs.declared.format.Format.TheVariants as formats
use Rattle.tui_json.specs.Members.{elements_within}
use Rattle.tui_json.specs.Refusals.{◌>>=◌, numbered}
use Rattle.tui_pager_lib.specs.Entry.{EntryData}
use Rattle.tui_pager_run.specs.Input.{required}
use Rattle.tui_pager_run.specs.Input as pager
use Rattle.tui_pager_run.specs.declared.bad_input.BadInput.{BadInput}
use Rattle.tui_pager_run.specs.declared.field.PagerField.TheVariants as fields
use Rattle.tui_program.specs.Input.{MeansJson}
use Rattle.tui_program.specs.declared.stop.Stop.{Stop}
use Rattle.tui_program.specs.declared.stop.Stop.TheVariants as stop
use Rattle.tui_system.specs.Commands.{Reader}

-- the entries of an input, or its first field that fails its test
unfoldable pub entries_of : Data → Result (List EntryData) BadInput
entries_of d = do
  values ← required (elements_within 0 1000) None fields.Entries d
  numbered pager.entry_of 0 values

-- what a text means: its pieces are the entries, if there are not too many
abbrev pub PiecesMean : List ℕ → Result (List EntryData) (Stop BadInput) → Type 0
PiecesMean text (Ok entries) = (all : List PieceData) × AreAllPieces text all × (entries ≡ map entry_of all)
PiecesMean text (Err stop.TooLong) = HasMorePieces text
PiecesMean text (Err stop.NoMemory) = Unit {0}
PiecesMean text (Err other) = ⊥

-- what bytes mean that should be UTF-8 text
abbrev pub TextMeans : List ℕ → Result (List EntryData) (Stop BadInput) → Type 0
TextMeans bytes (Err stop.NotText) = IsUtf8 bytes → ⊥
TextMeans bytes x = IsUtf8 bytes × PiecesMean bytes x

-- what the bytes of a file mean
abbrev pub Means : Format → List ℕ → Result (List EntryData) (Stop BadInput) → Type 0
Means formats.Entries bytes x = MeansJson entries_of bytes x
Means formats.Text bytes x = TextMeans bytes x

-- what the program reads
abbrev pub browse_reader : Reader BrowseCommand (List EntryData) BadInput
browse_reader = record { named = Name; file = λ command. string_bytes command.file; means = λ command. Means command.format }
