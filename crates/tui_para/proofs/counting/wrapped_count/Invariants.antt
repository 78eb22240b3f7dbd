use Rattle.std.proofs.Common.{◌≡◌, sum_by, map, take}
use Rattle.tui_para.specs.Counting.{wrapped_len}
use Rattle.tui_text.specs.Line.{line_data}
use Rattle.tui_clusters.specs.Width.{saturated}
use Rattle.tui_para.proofs.counting.wrapped_count.Given as goal

abbrev pub invariant-loop-line : goal.invariant-loop-line
invariant-loop-line l = l.count ≡ saturated (sum_by (wrapped_len l.width l.wrap l.base) (map line_data (take l.line-index l.line-items)))
