-- Laws of lists.
use Rattle.std.specs.Prelude.{◌≡◌, ℕ, ◌+◌, ◌<◌, ◌≤◌, true, length, slice_index, Option, None, Some}
use Rattle.tui_cells.specs.declared.rect.Rect.{Rect}
use Rattle.tui_cells.specs.declared.style.Style.{Style}
use Rattle.tui_cells.specs.Cell.{Look, restyled}
use Rattle.tui_cells.specs.Layers.{layers_at}
use Rattle.tui_cells.specs.Rect.{covers, farthest_edge}
use Rattle.tui_frames.specs.Block.{BlockData}
use Rattle.tui_frames.specs.InBlock.{inner_of}
use Rattle.tui_layout.specs.Sums.{total}
use Rattle.tui_layout.specs.Window.{cut_selection}
use Rattle.tui_lists.specs.List.{ListData, list_after, list_window}
use Rattle.tui_lists.specs.ListItem.{heights_of}
use Rattle.tui_lists.specs.ListStrokes.{content_layers, list_layers}
use Rattle.tui_lists.specs.declared.list.state.ListState.{ListState}

-- if the selected item fits the rows, it is one of those that are drawn, and these fit together
abbrev pub SelectedIsShown : Type 0
SelectedIsShown = (l : ListData) (room place : ℕ) (s : ListState) → 0 < length l.items → cut_selection (heights_of l.items) s.selected ≡ Some place →
    slice_index (heights_of l.items) place ≤ room →
    let w = list_window l room s in
    (w.first ≤ place) × (place < w.end) × (w.end ≤ length l.items) × (total (heights_of l.items) w.first w.end ≤ room)

-- a drawing with the state that a drawing left has the same strokes as that one
abbrev pub RedrawKeepsStrokes : Type 0
RedrawKeepsStrokes = (l : ListData) (s : ListState) (clip : Rect) → list_layers l (list_after l (inner_of l.block clip) s) clip ≡ list_layers l s clip

-- a cell after the style of the list, and then that of the block if there is one, are set on it
abbrev pub under_items : Option BlockData → Style → Look → Look
under_items None style cell = restyled style cell
under_items (Some b) style cell = restyled b.style (restyled style cell)

-- inside the block the items are drawn over the old cells with these styles
abbrev pub ItemsAreOverStyles : Type 0
ItemsAreOverStyles = (l : ListData) (s : ListState) (clip : Rect) (x y : ℕ) (cell : Look)
    → clip.x + clip.width ≤ farthest_edge → clip.y + clip.height ≤ farthest_edge
    → covers (inner_of l.block clip) x y ≡ true
    → layers_at (list_layers l s clip) x y cell ≡ layers_at (content_layers l (inner_of l.block clip) s) x y (under_items l.block l.style cell)
