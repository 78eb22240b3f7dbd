-- The positions that a widget with a block may change.
use Rattle.std.specs.Prelude.{ℕ, Bool, Option, None, Some}
use Rattle.tui_cells.specs.declared.rect.Rect.{Rect}
use Rattle.tui_cells.specs.Rect.{covers}
use Rattle.tui_frames.specs.Block.{BlockData}
use Rattle.tui_frames.specs.Shadow.{ShadowData, shadow_footprint}

-- the clip, and the clip moved by the offset of a shadow, if there is one
abbrev pub footprint_of : Option ShadowData → Rect → ℕ → ℕ → Bool
footprint_of None clip = covers clip
footprint_of (Some s) clip = shadow_footprint s clip

-- the positions that a block may change
abbrev pub block_footprint : BlockData → Rect → ℕ → ℕ → Bool
block_footprint b = footprint_of b.shadow

-- the same for a widget that may have a block
abbrev pub footprint_if : Option BlockData → Rect → ℕ → ℕ → Bool
footprint_if None = covers
footprint_if (Some b) = block_footprint b
