-- One byte.
use Rattle.std.proofs.Common.{◌≡◌, ℕ, ◌≤◌, [], ◌∷◌, false, refl}
use Rattle.tui_clusters.proofs.OneByte.{printable_width}
use Rattle.tui_clusters.specs.Width.{width_of}
use Rattle.tui_text.specs.Visible.{step_of}

-- a printable byte takes one column
pub one_byte : (b : ℕ) → 32 ≤ b → b ≤ 126 → step_of (b ∷ []) ≡ 1
unfolding step_of width_of
one_byte b low high = rw (printable_width false (b ∷ []) b refl low high) refl
