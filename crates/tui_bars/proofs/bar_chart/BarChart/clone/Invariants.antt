use Rattle.std.proofs.Common.{◌≡◌, map, take, true}
use Rattle.std.specs.Cmp.Lexicographic.{pointwise}
use Rattle.tui_bars.specs.BarChart.{group_data}
use Rattle.tui_bars.specs.contracts.bar_group.BarGroupPartialEq.TheImpl.{eq-value}
use Rattle.tui_bars.proofs.bar_chart.BarChart.clone.Given as goal

-- the first groups are copied
abbrev pub invariant-loop-group : goal.invariant-loop-group
invariant-loop-group l = record {
  same : map group_data l.groups.items ≡ map group_data (take l.group-index l.self.groups.items);
  equal : pointwise eq-value.it l.groups.items (take l.group-index l.self.groups.items) ≡ true;
}
