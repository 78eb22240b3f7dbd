-- How a `Paragraph` is drawn, for those who place it.
use Rattle.tui_cells.specs.Drawing.{Drawing}
use Rattle.tui_frames.specs.Footprint.{footprint_if}
use Rattle.tui_frames.specs.InBlockStays.{nowhere_if}
use Rattle.tui_para.specs.Paragraph.{ParagraphData}
use Rattle.tui_para.specs.Rendering.{ParagraphShows, paragraph_layers}
use Rattle.tui_para.specs.Stays.{paragraph_stays}

-- a paragraph shows the lines of its text, and allocates for them
abbrev pub paragraph_drawing : ParagraphData → Drawing
paragraph_drawing p = record {
  layers = paragraph_layers p;
  footprint = footprint_if p.block;
  shows = ParagraphShows p;
  allocation_free = ⊥;
  stays = paragraph_stays p;
  nowhere = nowhere_if p.block;
}
