use Rattle.std.proofs.Common.{◌≡◌, ◌+◌, ◌≤◌, All, length, map}
use Rattle.std.specs.Option.{option_copied}
use Rattle.std.specs.Prelude.{unwrap_or}
use Rattle.tui_cells.specs.Buffer.{Screen}
use Rattle.tui_cells.specs.Cell.{IsAllocationFree}
use Rattle.tui_cells.specs.Layers.{KeptOutside, Painted}
use Rattle.tui_cells.specs.Rect.{covers}
use Rattle.tui_cells.specs.Style.{no_style}
use Rattle.tui_text.specs.Painting.{cells_at}
use Rattle.tui_text.specs.Setting.{set_clusters, set_end}
use Rattle.unicode_segmentation.specs.Iter.{graphemes_left}
use Rattle.tui_input.proofs.input.rendering.write_graphemes.Given as goal

-- the graphemes that are still to be written complete the whole
abbrev pub invariant-loop-grapheme : goal.invariant-loop-grapheme
invariant-loop-grapheme l = record {
  columns : l.x + l.left ≡ l.at.x + l.room;
  left : l.left ≤ l.room;
  end : set_end l.x l.left (map (unwrap_or (option_copied l.mask)) (graphemes_left l.graphemes))
      ≡ set_end l.at.x l.room (map (unwrap_or (option_copied l.mask)) (graphemes_left l.fn.graphemes));
  rest : (final : Screen) → Painted (set_clusters l.x l.at.y l.left no_style (map (unwrap_or (option_copied l.mask)) (graphemes_left l.graphemes))) l.buf final
      → Painted (set_clusters l.at.x l.at.y l.room no_style (map (unwrap_or (option_copied l.mask)) (graphemes_left l.fn.graphemes))) l.fn.buf final;
  allocation_free : All IsAllocationFree (map (unwrap_or (option_copied l.mask)) (graphemes_left l.fn.graphemes))
      → All IsAllocationFree (map (unwrap_or (option_copied l.mask)) (graphemes_left l.graphemes));
  kept : KeptOutside (covers (cells_at l.at.x l.at.y l.room)) l.fn.buf l.buf;
}

abbrev pub decreases-loop-grapheme : goal.decreases-loop-grapheme
decreases-loop-grapheme l = length (graphemes_left l.graphemes)
