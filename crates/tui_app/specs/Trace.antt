-- Traces: what was written to a terminal and what it gave, in order.
use Rattle.std.specs.Prelude.{◌≡◌, ℕ, ◌+◌, ◌<◌, ◌≤◌, List, ◌∷◌, length, map}
use Rattle.std.specs.Io.KnownBytes.{Appends, Keeps}
use Rattle.tui_io.specs.Causes.{Rose, TakesPrefix, Observed}

-- the largest number of bytes in a read
abbrev pub read_capacity : ℕ
read_capacity = 1024

-- the bytes of one read
pub record IsRead (bytes : List ℕ) : Type 0 where
  pub some : 0 < length bytes
  pub within : length bytes ≤ read_capacity

-- The entry of a read that did not fail: a mark, and its bytes, which are shifted so that they differ from written
-- ones. An entry without bytes is the end of the input.
abbrev pub read_entry : List ℕ → List ℕ
read_entry bytes = 256 ∷ map (λ b. 257 + b) bytes

-- a trace grew by all of this
pub record Traced (old new : Observed) (trace : List ℕ) : Type 0 where
  pub taken : Appends old.bytes new.bytes trace
  pub io_errors : new.io_errors ≡ old.io_errors

-- a trace grew by a proper prefix of this, since a write failed
pub record WriteFailed (old new : Observed) (trace : List ℕ) : Type 0 where
  pub part : TakesPrefix old.bytes new.bytes trace
  pub io_errors : Rose old.io_errors new.io_errors

-- a trace is unchanged, since a read failed
pub record ReadFailed (old new : Observed) : Type 0 where
  pub kept : Keeps old.bytes new.bytes
  pub io_errors : Rose old.io_errors new.io_errors
