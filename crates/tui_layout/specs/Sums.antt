-- Heights and their sums.
use Rattle.std.specs.Prelude.{ℕ, ◌+◌, ◌-◌, ◌^◌, ◌<◌, ◌≤◌, List, [], ◌∷◌, sum, slice_range}

-- the sum of the heights from index a up to index b, exclusive
unfoldable pub total : List ℕ → ℕ → ℕ → ℕ
total heights a b = sum (slice_range heights a b)

-- the heights with these prefix sums: each sum minus the one before it
abbrev pub heights_of : ℕ → List ℕ → List ℕ
heights_of before [] = []
heights_of before (sum ∷ sums) = (sum - before) ∷ heights_of sum sums

-- the sums never fall, and each grows by less than 2 ^ 64
abbrev pub IsRising : ℕ → List ℕ → Type 0
IsRising before [] = Unit {0}
IsRising before (sum ∷ sums) = (before ≤ sum) × (sum < before + 2 ^ 64) × IsRising sum sums
