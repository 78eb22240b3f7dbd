use Rattle.std.proofs.Common.{◌≡◌, map, take}
use Rattle.tui_scene.specs.Item.{placed_data}
use Rattle.tui_panes_lib.specs.Panes.{rects_of}
use Rattle.tui_panes_lib.proofs.placed_leaves.areas.Given as goal

-- the rectangles of the first widgets
abbrev pub invariant-loop-placed : goal.invariant-loop-placed
invariant-loop-placed l = l.rects.items ≡ rects_of (map placed_data (take l.placed-index l.items))
