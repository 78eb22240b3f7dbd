use Rattle.std.proofs.Common.{◌∙◌, sym}
use Rattle.tui_bars.specs.BarChart.{group_data, has_bar_label}
use Rattle.tui_bars.proofs.Walks.{any_found}
use Rattle.tui_bars.proofs.bar_chart.BarChart.has_bar_labels.Goals as goal

pub returns-then-has_bar_label : goal.returns-then-has_bar_label
returns-then-has_bar_label c =
    any_found has_bar_label group_data c.args.self.now.groups.items c.deref-group-items.result.now c.loop-group.group-index c.group-item.result (search) (search) c.group-item.is
    (sym c.has_bar_label.ensures ∙ c.if-has_bar_label.true)
