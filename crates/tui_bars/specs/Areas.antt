-- Filling the part of an area that is in a clip.
use Rattle.std.specs.Prelude.{ℕ, List, [], ◌∷◌}
use Rattle.tui_cells.specs.declared.rect.Rect.{Rect}
use Rattle.tui_cells.specs.declared.style.Style.{Style}
use Rattle.tui_cells.specs.Cell.{set_style, write}
use Rattle.tui_cells.specs.Layers.{Layer, over}
use Rattle.tui_cells.specs.Rect.{covers, intersection_of}

-- a symbol and then a style are written to each cell of the area that is in the clip
unfoldable pub fill_layers : Rect → Rect → List ℕ → Style → List Layer
fill_layers clip area symbol style = over (covers (intersection_of clip area)) (write symbol ∷ set_style style ∷ [])
