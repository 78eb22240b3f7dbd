use Rattle.std.proofs.Common.{◌≡◌, ◌-◌, drop, map}
use Rattle.tui_cells.specs.Layers.{KeptOutside, Painted}
use Rattle.tui_cells.specs.Rect.{covers}
use Rattle.tui_frames.specs.Block.{block_data, title_data}
use Rattle.tui_frames.specs.Strokes.{titles_to_end}
use Rattle.tui_frames.specs.Titles.{spaced, titles_in}
use Rattle.tui_frames.proofs.block.Block.paint_to_end.Given as goal

-- the last titles are painted, and `after` is the number of columns that they take
abbrev pub invariant-loop-i : goal.invariant-loop-i
invariant-loop-i l = record {
  shown : Painted (titles_to_end (block_data l.self) l.strip.clip l.strip.row
      (titles_in (block_data l.self) l.strip.place (map title_data (drop (l.count - l.i) l.self.titles.items)))) l.fn.buf l.buf;
  taken : l.after ≡ spaced (titles_in (block_data l.self) l.strip.place (map title_data (drop (l.count - l.i) l.self.titles.items)));
  kept : KeptOutside (covers l.strip.clip) l.fn.buf l.buf;
}
