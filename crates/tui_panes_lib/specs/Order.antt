-- Marks for the numbers of an order.
use Rattle.std.specs.Prelude.{ℕ, ◌≡◌, ◌<◌, ◌==◌, Bool, false, if◌then◌else◌, List, length, count_by, All, slice_index_or}

-- each number has a mark; a marked number occurs once, and an unmarked one not at all
pub record AreMarked (marks : List Bool) (numbers : List ℕ) : Type 0 where
  pub below : All (λ i. i < length marks) numbers
  pub counts : (i : ℕ) → i < length marks → count_by (λ j. j == i) numbers ≡ (if slice_index_or marks i false then 1 else 0)
