use Rattle.std.proofs.Common.{drop, map}
use Rattle.tui_cells.specs.Buffer.{Screen}
use Rattle.tui_cells.specs.Layers.{KeptOutside, Painted}
use Rattle.tui_cells.specs.Rect.{covers}
use Rattle.tui_frames.specs.Block.{block_data, title_data}
use Rattle.tui_frames.specs.Strokes.{titles_cut}
use Rattle.tui_frames.specs.Titles.{titles_in}
use Rattle.tui_frames.proofs.block.Block.paint_cut.Given as goal

-- painting the titles that are left completes the whole
abbrev pub invariant-loop-title : goal.invariant-loop-title
invariant-loop-title l = record {
  rest : (final : Screen) →
      Painted (titles_cut (block_data l.self) l.strip.clip l.strip.row l.cut l.column
      (titles_in (block_data l.self) l.strip.place (map title_data (drop l.title-index l.self.titles.items)))) l.buf final →
      Painted (titles_cut (block_data l.self) l.strip.clip l.strip.row l.cut 0
      (titles_in (block_data l.self) l.strip.place (map title_data l.self.titles.items))) l.fn.buf final;
  kept : KeptOutside (covers l.strip.clip) l.fn.buf l.buf;
}
