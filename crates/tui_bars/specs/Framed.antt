-- Widgets with a style and an optional block around their content.
use Rattle.std.specs.Prelude.{List, ◌++◌, Option}
use Rattle.tui_cells.specs.declared.rect.Rect.{Rect}
use Rattle.tui_cells.specs.declared.style.Style.{Style}
use Rattle.tui_cells.specs.Layers.{Layer}
use Rattle.tui_frames.specs.Block.{BlockData}
use Rattle.tui_frames.specs.InBlock.{frame_layers, inner_of}

-- all strokes: the content is in the block's inner area, or in the whole clip if there is no block
abbrev pub framed_layers : Option BlockData → Style → (Rect → List Layer) → Rect → List Layer
framed_layers block style content clip = frame_layers block style clip ++ content (inner_of block clip)
