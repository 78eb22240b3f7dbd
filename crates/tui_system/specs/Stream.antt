-- What is observable of a stream or of a file in its place.
use Rattle.std.specs.Prelude.{⊤, ◌≡◌, IsNone}
use Rattle.tui_io.specs.Causes.{Observed}
use Rattle.tui_program.specs.declared.file_source.FileSource.{FileSource}
use Rattle.tui_system.specs.declared.stream.Stream.{Stream}
use Rattle.tui_system.specs.declared.stream.Stream.TheVariants.{Standard, File}

abbrev pub observed_of : {S F : Type 0} → (S → Observed) → (F → Observed) → Stream S F → Observed
observed_of stream file (Standard s) = stream s
observed_of stream file (File f) = file f

-- a file in its place that could not be opened
abbrev pub FailsAlways : {S F : Type 0} → Stream S (FileSource F) → Type 0
FailsAlways (Standard s) = ⊥
FailsAlways (File f) = IsNone f.file

-- a file in its place, of which no read has failed yet
abbrev pub IsFile : {S F : Type 0} → Stream S (FileSource F) → Type 0
IsFile (Standard s) = ⊥
IsFile (File f) = f.io_errors ≡ 0

-- standard input, or a file in its place that could not be opened
abbrev pub IsStandardOrFails : {S F : Type 0} → Stream S (FileSource F) → Type 0
IsStandardOrFails (Standard s) = ⊤
IsStandardOrFails (File f) = IsNone f.file
