-- How graphemes are wrapped.
use Rattle.std.specs.Prelude.{ℕ, Bool, ◌||◌}

-- Which graphemes are whitespace, before which ones their word is split, and how wide each of them is. Also how wide a
-- line may be, and whether whitespace at its beginning is dropped.
pub record Rule (A : Type 0) : Type 0 where
  pub blank : A → Bool
  pub split : A → Bool
  pub size : A → ℕ
  pub width : ℕ
  pub trim : Bool

-- what ends a piece of a word before it: a grapheme before which the word is split, or whitespace
abbrev pub ends_piece : {A : Type 0} → Rule A → A → Bool
ends_piece rule x = rule.split x || rule.blank x
