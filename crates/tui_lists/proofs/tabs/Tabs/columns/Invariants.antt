use Rattle.std.proofs.Common.{◌≡◌, map, sum_by, take}
use Rattle.tui_lists.specs.Tabs.{tab_width, tabs_data}
use Rattle.tui_text.specs.Line.{line_data}
use Rattle.tui_clusters.specs.Width.{saturated}
use Rattle.tui_lists.proofs.tabs.Tabs.columns.Given as goal

abbrev pub invariant-loop-title : goal.invariant-loop-title
invariant-loop-title l = l.columns ≡ saturated (sum_by (tab_width l.cjk (tabs_data l.self)) (map line_data (take l.title-index l.self.titles.items)))
