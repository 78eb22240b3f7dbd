-- Widgets that change only their clip.
use Rattle.std.specs.Prelude.{List}
use Rattle.tui_cells.specs.declared.rect.Rect.{Rect}
use Rattle.tui_cells.specs.Rect.{covers}
use Rattle.tui_cells.specs.Layers.{Layer, Painted, StayIn}
use Rattle.tui_cells.specs.Drawing.{Drawing}
use Rattle.tui_cells.proofs.Painting.{covers_nowhere}

-- a widget that shows its strokes, none of which leaves the clip
abbrev pub in_clip : (layers : Rect → List Layer) → Type 0 → ((clip : Rect) → StayIn (covers clip) (layers clip)) → Drawing
in_clip layers allocation_free stays = record {
  layers = layers;
  footprint = covers;
  shows = λ clip. Painted (layers clip);
  allocation_free = allocation_free;
  stays = stays;
  nowhere = covers_nowhere;
}
