use Rattle.std.proofs.Common.{◌≡◌, map, take}
use Rattle.std.specs.Prelude.{fold, max}
use Rattle.tui_bars.specs.BarChart.{bar_data, label_width}
use Rattle.tui_bars.proofs.bar_group.BarGroup.label_width.Given as goal

abbrev pub invariant-loop-bar : goal.invariant-loop-bar
invariant-loop-bar l = l.most ≡ fold max 0 (map label_width (map bar_data (take l.bar-index l.self.bars.items)))
