-- Where a text is cut.
use Rattle.std.specs.Prelude.{◌≡◌, ◌≢◌, ℕ, ◌-◌, ◌<◌, ◌≤◌, List, length, take, slice_index}
use Rattle.tui_browse_run.specs.Pieces.{line_feeds}

-- The leading lines of some bytes that end with a line feed: `n` bytes with `count` line feeds, at most 1000. If there
-- are fewer than 1000, no line feed follows them.
pub record AreWholeLines (bytes : List ℕ) (n count : ℕ) : Type 0 where
  pub within : n ≤ length bytes
  pub few : count ≤ 1000
  pub counted : count ≡ line_feeds (take n bytes)
  pub ends : 0 < n → slice_index bytes (n - 1) ≡ 10
  pub all : count < 1000 → line_feeds bytes ≡ count
  pub none : count < 1000 → (k : ℕ) → n ≤ k → k < length bytes → slice_index bytes k ≢ 10
