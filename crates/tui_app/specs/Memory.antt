-- The state of a terminal in memory.
use Rattle.std.specs.Prelude.{ℕ, List, length, min, get_or}
use Rattle.tui_app.specs.Trace.{read_capacity}

-- Its trace and the capacity of the trace; the bytes that are left, and the length of each read; the numbers of the
-- calls that fail, and the counts of calls and of failed calls.
pub record TerminalState : Type 0 where
  pub trace : List ℕ
  pub capacity : ℕ
  pub left : List ℕ
  pub lengths : List ℕ
  pub failing : List ℕ
  pub calls : ℕ
  pub io_errors : ℕ

-- the length of the next read
abbrev pub next_read_len : TerminalState → ℕ
next_read_len t = min (min (get_or t.lengths 0 0) (length t.left)) read_capacity
