-- The colour depth of a terminal, from the environment.
use Rattle.std.specs.Prelude.{◌≡◌, ◌≢◌, ◌⊎◌, ℕ, List, [], codes}
use Rattle.std.specs.Str.Iter.{HasSubslice}
use Rattle.tui_terminal_model.specs.declared.depth.Depth.{Depth}
use Rattle.tui_terminal_model.specs.declared.depth.Depth.TheVariants as depths

-- there is no terminal, or it has no colours
abbrev pub IsDumb : List ℕ → Type 0
IsDumb term = (term ≡ []) ⊎ (term ≡ codes "dumb")

-- or the user wants no colours
abbrev pub IsPlain : List ℕ → List ℕ → Type 0
IsPlain no_color term = (no_color ≢ []) ⊎ IsDumb term

abbrev pub IsTrueColor : List ℕ → Type 0
IsTrueColor colorterm = (colorterm ≡ codes "truecolor") ⊎ (colorterm ≡ codes "24bit")

abbrev pub HasPalette : List ℕ → Type 0
HasPalette term = HasSubslice term (codes "256color")

-- The depth by the environment variables NO_COLOR, COLORTERM and TERM, which are empty if they are not set. The first
-- rule that applies decides.
abbrev pub IsDepth : List ℕ → List ℕ → List ℕ → Depth → Type 0
IsDepth no_color colorterm term depths.None = IsPlain no_color term
IsDepth no_color colorterm term depths.True = (IsPlain no_color term → ⊥) × IsTrueColor colorterm
IsDepth no_color colorterm term depths.Palette = (IsPlain no_color term → ⊥) × (IsTrueColor colorterm → ⊥) × HasPalette term
IsDepth no_color colorterm term depths.Sixteen = (IsPlain no_color term → ⊥) × (IsTrueColor colorterm → ⊥) × (HasPalette term → ⊥)
