use Rattle.std.proofs.Common.{◌≡◌, map, take}
use Rattle.std.specs.Prelude.{fold, max}
use Rattle.tui_bars.specs.BarChart.{group_data, label_width_in}
use Rattle.tui_bars.proofs.bar_chart.BarChart.label_width.Given as goal

abbrev pub invariant-loop-group : goal.invariant-loop-group
invariant-loop-group l = l.most ≡ fold max 0 (map label_width_in (map group_data (take l.group-index l.self.groups.items)))
