use Rattle.std.proofs.Common.{◌≡◌, false, map, take}
use Rattle.std.specs.List.{list_any}
use Rattle.tui_bars.specs.BarChart.{group_data, has_group_label}
use Rattle.tui_bars.proofs.bar_chart.BarChart.has_group_labels.Given as goal

abbrev pub invariant-loop-group : goal.invariant-loop-group
invariant-loop-group l = list_any has_group_label (map group_data (take l.group-index l.self.groups.items)) ≡ false
