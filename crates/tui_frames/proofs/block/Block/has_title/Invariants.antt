use Rattle.std.proofs.Common.{◌≡◌, drop, map}
use Rattle.std.specs.List.{list_any}
use Rattle.tui_frames.specs.Block.{block_data, title_data}
use Rattle.tui_frames.specs.Titles.{has_title, is_on}
use Rattle.tui_frames.proofs.block.Block.has_title.Given as goal

-- the titles that are left decide
abbrev pub invariant-loop-title : goal.invariant-loop-title
invariant-loop-title l =
    has_title (block_data l.self) l.position ≡ list_any (is_on (block_data l.self) l.position) (map title_data (drop l.title-index l.self.titles.items))
