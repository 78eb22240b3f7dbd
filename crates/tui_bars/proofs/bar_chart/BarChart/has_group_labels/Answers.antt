use Rattle.std.proofs.Common.{◌∙◌, sym}
use Rattle.tui_bars.specs.BarChart.{group_data, has_group_label}
use Rattle.tui_bars.proofs.Walks.{any_found, some_mapped}
use Rattle.tui_text.specs.Line.{line_data}
use Rattle.tui_bars.proofs.bar_chart.BarChart.has_group_labels.Goals as goal

pub returns-then-is_some : goal.returns-then-is_some
returns-then-is_some c = any_found has_group_label group_data c.args.self.now.groups.items c.deref-group-items.result.now c.loop-group.group-index c.group-item.result (search) (search) c.group-item.is
    (some_mapped line_data c.group-item.result.label ∙ (sym c.is_some.ensures ∙ c.if-is_some.true))
