-- How a list is drawn, for those who place it.
use Rattle.std.specs.Prelude.{⊤, All, Option, None, Some}
use Rattle.tui_cells.specs.Drawing.{Drawing, StatefulDrawing}
use Rattle.tui_cells.specs.Layers.{Painted}
use Rattle.tui_frames.specs.Footprint.{footprint_if}
use Rattle.tui_frames.specs.InBlock.{IsAllocationFreeIfBlock, inner_of}
use Rattle.tui_frames.specs.InBlockStays.{nowhere_if}
use Rattle.tui_frames.proofs.InBlock.{inner_empty}
use Rattle.tui_lists.specs.List.{ListData, ListMoves, list_after}
use Rattle.tui_lists.specs.ListItem.{ListItemData}
use Rattle.tui_lists.specs.ListIdempotence.{list_rests, list_is_idempotent}
use Rattle.tui_lists.specs.ListState.{default_state}
use Rattle.tui_lists.specs.ListStays.{list_stays}
use Rattle.tui_lists.specs.ListStrokes.{list_layers}
use Rattle.tui_lists.specs.declared.list.state.ListState.{ListState}
use Rattle.tui_text.specs.Line.{LineData}
use Rattle.tui_text.specs.Setting.{AreAllocationFree}

-- no symbol, or one whose graphemes fit in their cells without an allocation
abbrev pub IsAllocationFreeSymbol : Option LineData → Type 0
IsAllocationFreeSymbol None = ⊤
IsAllocationFreeSymbol (Some symbol) = AreAllocationFree symbol.spans

-- an item that is drawn without allocating
abbrev pub IsAllocationFreeItem : ListItemData → Type 0
IsAllocationFreeItem item = All (λ line. AreAllocationFree line.spans) item.content.lines

-- a list that is drawn without allocating
pub record IsAllocationFreeList (l : ListData) : Type 0 where
  pub block : IsAllocationFreeIfBlock l.block
  pub symbol : IsAllocationFreeSymbol l.symbol
  pub items : All IsAllocationFreeItem l.items

-- a list shows its items from the offset on, and moves the offset as little as possible
abbrev pub list_moving : ListData → StatefulDrawing ListState
list_moving l = record {
  layers = list_layers l;
  footprint = footprint_if l.block;
  after = λ clip s. list_after l (inner_of l.block clip) s;
  shows = λ old new clip before after. ListMoves l (inner_of l.block clip) old new;
  allocation_free = IsAllocationFreeList l;
  stays = list_stays l;
  nowhere = nowhere_if l.block;
  rests = λ s clip e. list_rests l s (inner_of l.block clip) (inner_empty l.block clip e);
  is_idempotent = λ s clip. list_is_idempotent l s (inner_of l.block clip);
}

-- without a state, a list begins at its first item and none is selected
abbrev pub list_drawing : ListData → Drawing
list_drawing l = record {
  layers = list_layers l default_state;
  footprint = footprint_if l.block;
  shows = λ clip. Painted (list_layers l default_state clip);
  allocation_free = IsAllocationFreeList l;
  stays = list_stays l default_state;
  nowhere = nowhere_if l.block;
}
