-- Bytes that are buffered on their way to a sink.
use Rattle.std.specs.Prelude.{◌≡◌, ℕ, List, ◌++◌, Bool, true, false}
use Rattle.tui_io.specs.Causes.{WritesIf, WritesAll, WritesPrefix, Observed}

-- the buffered bytes, and whether no write has failed
pub record PrintState : Type 0 where
  pub bytes : List ℕ
  pub ok_so_far : Bool

-- Bytes are added to those that are buffered. As long as no write fails, the bytes that were written and those that are
-- buffered now are all of them, in order.
abbrev pub Passes : Observed → Observed → Bool → Bool → List ℕ → List ℕ → List ℕ → Type 0
Passes old new true true before now bytes =
    (done : List ℕ) × WritesAll old new done × (before ++ bytes ≡ done ++ now)
Passes old new true false before now bytes = WritesPrefix old new (before ++ bytes)
Passes old new false true before now bytes = ⊥
Passes old new false false before now bytes = WritesIf old new false false bytes

-- The effect on a sink and its `Print` of adding these bytes.
pub record Prints (old new : Observed) (before now : PrintState) (bytes : List ℕ) : Type 0 where
  pub passed : Passes old new before.ok_so_far now.ok_so_far before.bytes now.bytes bytes
