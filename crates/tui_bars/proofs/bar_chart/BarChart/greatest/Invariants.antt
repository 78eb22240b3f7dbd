use Rattle.std.proofs.Common.{◌≡◌, map, take}
use Rattle.std.specs.Prelude.{fold, max}
use Rattle.tui_bars.specs.BarChart.{greatest_in, group_data}
use Rattle.tui_bars.proofs.bar_chart.BarChart.greatest.Given as goal

abbrev pub invariant-loop-group : goal.invariant-loop-group
invariant-loop-group l = l.most ≡ fold max 0 (map greatest_in (map group_data (take l.group-index l.self.groups.items)))
