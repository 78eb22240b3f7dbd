-- The line of a text line that is not wrapped. `size` is a grapheme's width.
use Rattle.std.specs.Prelude.{◌≡◌, ◌≢◌, ◌<◌, ◌≤◌, ℕ, ◌-◌, Bool, true, false, if◌then◌else◌, ◌&&◌, nat_le, nat_lt, List, [], ◌∷◌, ◌++◌, length, sum_by}
use Rattle.tui_para.specs.Wrapped.{not_wider}

-- the longest prefix of the list for which P holds, and what comes after it
pub record IsLongestPrefix {A : Type 0} (P : List A → Type 0) (xs front after : List A) : Type 0 where
  pub joined : xs ≡ front ++ after
  pub holds : P front
  pub longest : (other more : List A) → xs ≡ other ++ more → P other → length other ≤ length front

-- the prefix is not wider than the room
abbrev pub FitsIn : {A : Type 0} → (A → ℕ) → ℕ → List A → Type 0
FitsIn size room front = sum_by size front ≤ room

-- a prefix that the offset skips: it is not wider than the offset, and each strictly shorter prefix of it is narrower
-- than the offset
pub record IsPassedBy {A : Type 0} (size : A → ℕ) (offset : ℕ) (front : List A) : Type 0 where
  pub fits : sum_by size front ≤ offset
  pub needed : (shorter more : List A) → front ≡ shorter ++ more → more ≢ [] → sum_by size shorter < offset

-- as many of the graphemes not wider than w as fit the width; if aligned to the left, without those that the offset
-- skips
pub record Truncated {A : Type 0} (size : A → ℕ) (w : ℕ) (left : Bool) (offset : ℕ) (xs line : List A) : Type 0 where
  pub shown : List A
  pub rest : List A
  pub passed : List A
  pub passes : left ≡ true → IsLongestPrefix (IsPassedBy size offset) (not_wider size w xs) passed shown
  pub stays : left ≡ false → shown ≡ not_wider size w xs
  pub fits : IsLongestPrefix (FitsIn size w) shown line rest

-- the same as functions: the graphemes that fit the room
abbrev pub fitting_prefix : {A : Type 0} → (A → ℕ) → ℕ → List A → List A
fitting_prefix size room [] = []
fitting_prefix size room (x ∷ xs) = if nat_le (size x) room then x ∷ fitting_prefix size (room - size x) xs else []

-- the graphemes that the offset leaves
abbrev pub left_by : {A : Type 0} → (A → ℕ) → ℕ → List A → List A
left_by size offset [] = []
left_by size offset (x ∷ xs) = if nat_lt 0 offset && nat_le (size x) offset then left_by size (offset - size x) xs else x ∷ xs

-- the line: the one that `Truncated` admits
abbrev pub truncate : {A : Type 0} → (A → ℕ) → ℕ → Bool → ℕ → List A → List A
truncate size w left offset xs = fitting_prefix size w (if left then left_by size offset (not_wider size w xs) else not_wider size w xs)
