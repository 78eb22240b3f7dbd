use Rattle.std.proofs.Common.{◌≡◌, map, take}
use Rattle.std.specs.Prelude.{fold, max}
use Rattle.tui_bars.specs.BarChart.{bar_data}
use Rattle.tui_bars.proofs.bar_group.BarGroup.greatest.Given as goal

abbrev pub invariant-loop-bar : goal.invariant-loop-bar
invariant-loop-bar l = l.most ≡ fold max 0 (map (λ b. b.value) (map bar_data (take l.bar-index l.self.bars.items)))
