use Rattle.std.proofs.Common.{◌≡◌, drop, length, map}
use Rattle.tui_cells.specs.Buffer.{Screen}
use Rattle.tui_scene.specs.Item.{placed_after}
use Rattle.tui_scene.specs.Scene.{DrawRun}
use Rattle.tui_scene.proofs.Running.{Drawn}
use Rattle.tui_panes_lib.specs.Draw.{in_order}
use Rattle.tui_panes_lib.specs.Panes.{rects_of}
use Rattle.tui_panes_lib.proofs.drawing.draw_leaves.Given as goal

-- as in a scene that has the leaves in this order: the first ones are drawn, and a run over the others completes the
-- run
abbrev pub invariant-leaves : goal.invariant-leaves
invariant-leaves l = record {
  drawn : Drawn (in_order l.order l.fn.scene) (in_order l.order l.scene) l.fn.buf l.buf l.at-index;
  run : (last : Screen) → DrawRun (drop l.at-index (in_order l.order l.fn.scene)) (map (placed_after l.fn.buf.area) (drop l.at-index (in_order l.order l.fn.scene))) l.buf last
      → DrawRun (in_order l.order l.fn.scene) (map (placed_after l.fn.buf.area) (in_order l.order l.fn.scene)) l.fn.buf last;
  areas : rects_of l.scene ≡ rects_of l.fn.scene;
  same_length : length l.scene ≡ length l.fn.scene;
}
