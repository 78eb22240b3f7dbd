-- Divisions of words into lines.
use Rattle.std.specs.Prelude.{◌≡◌, ◌≢◌, ℕ, ◌+◌, ◌<◌, ◌≤◌, Bool, true, All, List, [], ◌∷◌, ◌++◌, length, sum_by, flat_map}
use Rattle.tui_para.specs.Wrapped.{up_to}

-- the width of a group of words, with whitespace of width 1 between two of them
abbrev pub group_width : {A : Type 0} → (A → ℕ) → List (List A) → ℕ
group_width size [] = 0
group_width size (v ∷ []) = sum_by size v
group_width size (v ∷ u ∷ vs) = sum_by size v + 1 + group_width size (u ∷ vs)

-- the words can be divided into n groups, in order, none of which is wider than w
pub record HasDivision {A : Type 0} (size : A → ℕ) (words : List (List A)) (w n : ℕ) : Type 0 where
  pub groups : List (List (List A))
  pub in_order : flat_map (λ g. g) groups ≡ words
  pub fit : All (λ group. group_width size group ≤ w) groups
  pub count : length groups ≡ n
  pub some : 0 < n

-- n is the least number of such groups
pub record IsFewest {A : Type 0} (size : A → ℕ) (words : List (List A)) (w n : ℕ) : Type 0 where
  pub divided : HasDivision size words w n
  pub least : (m : ℕ) → HasDivision size words w m → n ≤ m

-- a word has a grapheme, and no whitespace
abbrev pub IsWord : {A : Type 0} → (A → Bool) → List A → Type 0
IsWord blank v = (v ≢ []) × (up_to blank v ≡ v)

-- the graphemes are these words, with single whitespace graphemes of width 1 between them and no whitespace at either
-- end
abbrev pub Spaced : {A : Type 0} → (A → Bool) → (A → ℕ) → List (List A) → List A → Type 0
Spaced blank size [] xs = xs ≡ []
Spaced blank size (v ∷ []) xs = IsWord blank v × (xs ≡ v)
Spaced {A} blank size (v ∷ u ∷ vs) xs =
    IsWord blank v × (b : A) × (rest : List A) × (xs ≡ v ++ b ∷ rest) × (blank b ≡ true) × (size b ≡ 1) × Spaced blank size (u ∷ vs) rest

-- such words, none of which is wider than w
pub record SpacedWithin {A : Type 0} (blank : A → Bool) (size : A → ℕ) (w : ℕ) (words : List (List A)) (xs : List A) : Type 0 where
  pub spaced : Spaced blank size words xs
  pub fit : All (λ word. sum_by size word ≤ w) words
