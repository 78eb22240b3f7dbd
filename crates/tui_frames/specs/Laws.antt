-- Laws of blocks.
use Rattle.std.specs.Prelude.{◌≡◌, ℕ, ◌+◌, ◌≤◌, true}
use Rattle.tui_cells.specs.declared.rect.Rect.{Rect}
use Rattle.tui_cells.specs.Cell.{Look, restyled}
use Rattle.tui_cells.specs.Layers.{layers_at}
use Rattle.tui_cells.specs.Rect.{covers, farthest_edge}
use Rattle.tui_frames.specs.Block.{BlockData}
use Rattle.tui_frames.specs.Space.{inner}
use Rattle.tui_frames.specs.Strokes.{block_layers}

-- inside a block each cell gets the block's style and nothing else from the block
abbrev pub InsideIsStyled : Type 0
InsideIsStyled = (b : BlockData) (clip : Rect) (x y : ℕ) (cell : Look) → clip.x + clip.width ≤ farthest_edge → clip.y + clip.height ≤ farthest_edge
    → covers (inner b clip) x y ≡ true → layers_at (block_layers b clip) x y cell ≡ restyled b.style cell
