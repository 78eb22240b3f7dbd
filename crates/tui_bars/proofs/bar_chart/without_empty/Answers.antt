use Rattle.std.proofs.Common.{rules, ap, ◌∙◌}
use Rattle.std.proofs.lemmas.Fn.{filter_same}
use Rattle.tui_bars.proofs.Walks.{filter_seen}
use Rattle.tui_bars.specs.BarChart.{group_data, has_bars}
use Rattle.std.specs.Prelude.{map}
use Rattle.tui_bars.proofs.bar_chart.without_empty.Goals as goal

pub returns : goal.returns
returns c =
    ap (map group_data) (filter_same _ (λ g. has_bars (group_data g)) _ (λ x b f k. search rules) _ _ c.retain.ensures.filtered)
    ∙ filter_seen group_data has_bars c.args.groups.items
