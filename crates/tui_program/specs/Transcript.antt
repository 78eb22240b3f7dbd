-- What a run does to its source and its sink.
use Rattle.std.specs.Prelude.{◌≡◌, ℕ, ◌+◌, ◌≤◌, List, length, Some, IsUtf8}
use Rattle.std.specs.Io.KnownBytes.{Consumes, IsAtEnd, Keeps}
use Rattle.serde_json.specs.Data.{Data}
use Rattle.serde_json.specs.Read.{read}
use Rattle.tui_io.specs.Causes.{ReadsBetween, Observed}
use Rattle.tui_io.specs.Limits.{chunk, limit}

-- the observable state of a run's source and sink, before and after it
pub record Transcript : Type 0 where
  pub source : Observed
  pub source_then : Observed
  pub sink : Observed
  pub sink_then : Observed

-- the same, given the four observations
abbrev pub transcript_of : Observed → Observed → Observed → Observed → Transcript
transcript_of source source_then sink sink_then = record { source = source; source_then = source_then; sink = sink; sink_then = sink_then }

-- nothing was read
pub record Unread (t : Transcript) : Type 0 where
  pub left : t.source_then.bytes ≡ t.source.bytes
  pub quiet : t.source_then.io_errors ≡ t.source.io_errors

-- these bytes, within the limit, were read, and none remain
pub record ReadWhole (t : Transcript) (bytes : List ℕ) : Type 0 where
  pub taken : Consumes t.source.bytes t.source_then.bytes bytes
  pub end : IsAtEnd t.source_then.bytes
  pub within : length bytes ≤ limit
  pub quiet : t.source_then.io_errors ≡ t.source.io_errors

-- the source gave a byte beyond the limit, and at most the rest of that chunk
pub record ReadPast (t : Transcript) : Type 0 where
  pub gave : ReadsBetween t.source.bytes t.source_then.bytes (limit + 1) (limit + chunk)
  pub quiet : t.source_then.io_errors ≡ t.source.io_errors

-- these bytes were read, and they are JSON for this value
pub record ReadJson (t : Transcript) (bytes : List ℕ) (value : Data) : Type 0 where
  pub whole : ReadWhole t bytes
  pub utf8 : IsUtf8 bytes
  pub json : read bytes ≡ Some value

-- no byte past the limit was read
abbrev pub ReadWithin : Transcript → Type 0
ReadWithin t = ReadsBetween t.source.bytes t.source_then.bytes 0 limit

-- nothing was written
pub record Unwritten (old new : Observed) : Type 0 where
  pub held : Keeps old.bytes new.bytes
  pub quiet : new.io_errors ≡ old.io_errors
