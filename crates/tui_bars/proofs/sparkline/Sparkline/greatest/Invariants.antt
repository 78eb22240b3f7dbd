use Rattle.std.proofs.Common.{◌≡◌, map, take}
use Rattle.std.specs.Prelude.{fold, max, unwrap_or}
use Rattle.tui_bars.specs.Sparkline.{sparkline_bar_data}
use Rattle.tui_bars.proofs.sparkline.Sparkline.greatest.Given as goal

-- the greatest of the first values
abbrev pub invariant-loop-bar : goal.invariant-loop-bar
invariant-loop-bar l = l.most ≡ fold max 0 (map (λ b. unwrap_or b.value 0) (map sparkline_bar_data (take l.bar-index l.self.bars.items)))
