-- The state of a source and of a sink in memory.
use Rattle.std.specs.Prelude.{ℕ, List}

-- the bytes that are left, the numbers of the calls that fail, and the counts of calls and of failed calls
pub record SourceState : Type 0 where
  pub left : List ℕ
  pub failing : List ℕ
  pub calls : ℕ
  pub io_errors : ℕ

-- the bytes that were written, the capacity in bytes, the numbers of the calls that fail, and the counts of calls
-- and of failed calls
pub record SinkState : Type 0 where
  pub held : List ℕ
  pub capacity : ℕ
  pub failing : List ℕ
  pub calls : ℕ
  pub io_errors : ℕ
