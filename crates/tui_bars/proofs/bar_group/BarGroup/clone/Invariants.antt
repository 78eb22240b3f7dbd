use Rattle.std.proofs.Common.{◌≡◌, map, take, true}
use Rattle.std.specs.Cmp.Lexicographic.{pointwise}
use Rattle.tui_bars.specs.BarChart.{bar_data}
use Rattle.tui_bars.specs.contracts.bar.BarPartialEq.TheImpl.{eq-value}
use Rattle.tui_bars.proofs.bar_group.BarGroup.clone.Given as goal

-- the first bars are copied
abbrev pub invariant-loop-bar : goal.invariant-loop-bar
invariant-loop-bar l = record {
  same : map bar_data l.bars.items ≡ map bar_data (take l.bar-index l.self.bars.items);
  equal : pointwise eq-value.it l.bars.items (take l.bar-index l.self.bars.items) ≡ true;
}
