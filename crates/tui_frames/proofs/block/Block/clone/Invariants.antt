use Rattle.std.proofs.Common.{◌≡◌, map, take, true}
use Rattle.std.specs.Cmp.Lexicographic.{pointwise}
use Rattle.tui_frames.specs.Block.{title_data}
use Rattle.tui_frames.specs.contracts.block.title.TitlePartialEq.TheImpl.{eq-value}
use Rattle.tui_frames.proofs.block.Block.clone.Given as goal

-- the first titles are copied
abbrev pub invariant-loop-title : goal.invariant-loop-title
invariant-loop-title l = record {
  same : map title_data l.titles.items ≡ map title_data (take l.title-index l.self.titles.items);
  equal : pointwise eq-value.it l.titles.items (take l.title-index l.self.titles.items) ≡ true;
}
