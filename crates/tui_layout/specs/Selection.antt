-- Moving a selection. Indices count from 0.
use Rattle.std.specs.Prelude.{ℕ, ◌+◌, ◌-◌, ◌^◌, min, Option, Some, None, unwrap_or}

-- the greatest index that 64 bits hold
abbrev pub greatest : ℕ
greatest = 2 ^ 64 - 1

-- the next index, or the first one
abbrev pub next_of : Option ℕ → ℕ
next_of None = 0
next_of (Some place) = min (place + 1) greatest

-- the previous index, or the greatest one
abbrev pub previous_of : Option ℕ → ℕ
previous_of None = greatest
previous_of (Some place) = place - 1

-- this many indices further on, counted from the first if nothing is selected
abbrev pub forward_by : Option ℕ → ℕ → ℕ
forward_by selected amount = min (unwrap_or selected 0 + amount) greatest

-- this many indices back, but at least the first one
abbrev pub back_by : Option ℕ → ℕ → ℕ
back_by selected amount = unwrap_or selected 0 - amount
