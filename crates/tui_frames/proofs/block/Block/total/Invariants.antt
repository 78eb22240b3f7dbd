use Rattle.std.proofs.Common.{◌≡◌, ◌≤◌, ◌*◌, map, take}
use Rattle.tui_frames.specs.Block.{block_data, title_data}
use Rattle.tui_frames.specs.Titles.{spaced, titles_in}
use Rattle.tui_frames.proofs.block.Block.total.Given as goal

abbrev pub invariant-loop-title : goal.invariant-loop-title
invariant-loop-title l = record {
  sum : l.sum ≡ spaced (titles_in (block_data l.self) l.place (map title_data (take l.title-index l.self.titles.items)));
  few : l.sum ≤ 65536 * l.title-index;
}
