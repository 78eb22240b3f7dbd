-- What blocks, shadows and widgets with a block draw, as seen by whoever places them.
use Rattle.std.specs.Prelude.{List, Option}
use Rattle.tui_cells.specs.declared.rect.Rect.{Rect}
use Rattle.tui_cells.specs.Drawing.{Drawing}
use Rattle.tui_cells.specs.Layers.{Layer, Painted, StayIn}
use Rattle.tui_cells.specs.Rect.{covers}
use Rattle.tui_frames.specs.Block.{BlockData}
use Rattle.tui_frames.specs.Footprint.{block_footprint, footprint_if}
use Rattle.tui_frames.specs.InBlock.{in_block_layers, inner_of}
use Rattle.tui_frames.specs.InBlockStays.{in_block_stays, nowhere_if}
use Rattle.tui_frames.specs.AllocationFree.{IsAllocationFreeBlock}
use Rattle.tui_frames.specs.Shadow.{IsAllocationFreeKind, ShadowData, shadow_footprint, shadow_layers}
use Rattle.tui_frames.specs.Stays.{block_stays, footprint_nowhere, shadow_nowhere, shadow_stays}
use Rattle.tui_frames.specs.Strokes.{block_layers}

-- a shadow, whose base is the clip
abbrev pub shadow_drawing : ShadowData → Drawing
shadow_drawing s = record {
  layers = shadow_layers s;
  footprint = shadow_footprint s;
  shows = λ clip. Painted (shadow_layers s clip);
  allocation_free = IsAllocationFreeKind s.kind;
  stays = shadow_stays s;
  nowhere = shadow_nowhere s;
}

-- a block, as seen by whoever places it
abbrev pub block_drawing : BlockData → Drawing
block_drawing b = record {
  layers = block_layers b;
  footprint = block_footprint b;
  shows = λ clip. Painted (block_layers b clip);
  allocation_free = IsAllocationFreeBlock b;
  stays = block_stays b;
  nowhere = footprint_nowhere b.shadow;
}

-- a widget that may have a block, without a style of its own, which shows its strokes
abbrev pub in_block_drawing : Option BlockData → (content : Rect → List Layer) → Type 0 →
    ((area : Rect) → StayIn (covers area) (content area)) → Drawing
in_block_drawing block content allocation_free stays = record {
  layers = in_block_layers block content;
  footprint = footprint_if block;
  shows = λ clip. Painted (in_block_layers block content clip);
  allocation_free = allocation_free;
  stays = λ clip. in_block_stays block content clip (stays (inner_of block clip));
  nowhere = nowhere_if block;
}
