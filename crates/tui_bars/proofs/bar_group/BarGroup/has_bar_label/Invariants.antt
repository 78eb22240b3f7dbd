use Rattle.std.proofs.Common.{◌≡◌, false, map, take}
use Rattle.std.specs.List.{list_any}
use Rattle.tui_bars.specs.BarChart.{bar_data, has_label}
use Rattle.tui_bars.proofs.bar_group.BarGroup.has_bar_label.Given as goal

abbrev pub invariant-loop-bar : goal.invariant-loop-bar
invariant-loop-bar l = list_any has_label (map bar_data (take l.bar-index l.self.bars.items)) ≡ false
