-- Widgets that may have a block.
use Rattle.std.specs.Prelude.{⊤, ℕ, ◌+◌, List, [], ◌++◌, Option, None, Some}
use Rattle.tui_cells.specs.declared.rect.Rect.{Rect}
use Rattle.tui_cells.specs.declared.style.Style.{Style}
use Rattle.tui_cells.specs.Cell.{set_style}
use Rattle.tui_cells.specs.Layers.{Layer, stroke}
use Rattle.tui_cells.specs.Rect.{covers}
use Rattle.tui_clusters.specs.Width.{saturated}
use Rattle.tui_frames.specs.Block.{BlockData}
use Rattle.tui_frames.specs.AllocationFree.{IsAllocationFreeBlock}
use Rattle.tui_frames.specs.Space.{inner}
use Rattle.tui_frames.specs.Strokes.{block_layers}

-- the area for the content of the block, or the whole area without a block
abbrev pub inner_of : Option BlockData → Rect → Rect
inner_of None area = area
inner_of (Some b) area = inner b area

-- the strokes of the block, if there is one
abbrev pub block_layers_if : Option BlockData → Rect → List Layer
block_layers_if None clip = []
block_layers_if (Some b) clip = block_layers b clip

-- what lies under the content: the style on the clip, and the block
abbrev pub frame_layers : Option BlockData → Style → Rect → List Layer
frame_layers block style clip = stroke (covers clip) (set_style style) ++ block_layers_if block clip

-- the block and then the content, which is drawn in the block's inner area, or in the clip if there is no block
abbrev pub in_block_layers : Option BlockData → (Rect → List Layer) → Rect → List Layer
in_block_layers block content clip = block_layers_if block clip ++ content (inner_of block clip)

-- no block, or one that does not allocate
abbrev pub IsAllocationFreeIfBlock : Option BlockData → Type 0
IsAllocationFreeIfBlock None = ⊤
IsAllocationFreeIfBlock (Some b) = IsAllocationFreeBlock b

-- a number plus what a block adds to it, cut at 2 ^ 64 - 1; without a block the number itself
abbrev pub beside : ℕ → Option ℕ → ℕ
beside n None = n
beside n (Some space) = saturated (n + space)
