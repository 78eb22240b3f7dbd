-- How tabs are drawn, for those who place them.
use Rattle.std.specs.Prelude.{All, [], ◌∷◌}
use Rattle.tui_cells.specs.Drawing.{Drawing}
use Rattle.tui_cells.specs.Layers.{Painted}
use Rattle.tui_frames.specs.Footprint.{footprint_if}
use Rattle.tui_frames.specs.InBlock.{IsAllocationFreeIfBlock}
use Rattle.tui_frames.specs.InBlockStays.{nowhere_if}
use Rattle.tui_lists.specs.Tabs.{TabsData}
use Rattle.tui_lists.specs.TabsStrokes.{tabs_layers, tabs_stay}
use Rattle.tui_text.specs.Setting.{AreAllocationFree}

-- tabs that are drawn without allocating
pub record IsAllocationFreeTabs (t : TabsData) : Type 0 where
  pub block : IsAllocationFreeIfBlock t.block
  pub titles : All (λ title. AreAllocationFree title.spans) t.titles
  pub padding_left : AreAllocationFree t.padding_left.spans
  pub padding_right : AreAllocationFree t.padding_right.spans
  pub divider : AreAllocationFree (t.divider ∷ [])

-- tabs as a drawing
abbrev pub tabs_drawing : TabsData → Drawing
tabs_drawing t = record {
  layers = tabs_layers t;
  footprint = footprint_if t.block;
  shows = λ clip. Painted (tabs_layers t clip);
  allocation_free = IsAllocationFreeTabs t;
  stays = tabs_stay t;
  nowhere = nowhere_if t.block;
}
