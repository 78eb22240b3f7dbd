-- The mark of one printable byte.
use Rattle.std.proofs.Common.{◌≡◌, ℕ, ◌≤◌, ◌==◌, List, [], ◌∷◌, false, ap₂, sym}
use Rattle.tui_cells.specs.declared.style.Style.{Style}
use Rattle.tui_clusters.specs.Width.{width_of}
use Rattle.tui_clusters.proofs.OneByte.{printable_blank, printable_width}
use Rattle.tui_para.specs.Mark.{mark_of}

byte_columns : (text : List ℕ) (b : ℕ) → text ≡ b ∷ [] → 32 ≤ b → b ≤ 126 → width_of text ≡ 1
unfolding width_of
byte_columns text b e low high = printable_width false text b e low high

pub byte_mark : (text : List ℕ) (style : Style) (b : ℕ) → text ≡ b ∷ [] → 32 ≤ b → b ≤ 126 →
    record { width = 1; blank = b == 32; split = false } ≡ mark_of (record { text = text; style = style }, false)
byte_mark text style b e low high =
    sym (ap₂ (λ w k. record { width = w; blank = k; split = false }) (byte_columns text b e low high) (printable_blank text b e low high))
