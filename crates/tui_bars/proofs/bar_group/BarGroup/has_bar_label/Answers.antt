use Rattle.std.proofs.Common.{◌∙◌, sym}
use Rattle.tui_bars.specs.BarChart.{bar_data, has_label}
use Rattle.tui_bars.proofs.Walks.{any_found, some_mapped}
use Rattle.tui_text.specs.Line.{line_data}
use Rattle.tui_bars.proofs.bar_group.BarGroup.has_bar_label.Goals as goal

pub returns-then-is_some : goal.returns-then-is_some
returns-then-is_some c = any_found has_label bar_data c.args.self.now.bars.items c.deref-bar-items.result.now c.loop-bar.bar-index c.bar-item.result (search) (search) c.bar-item.is
    (some_mapped line_data c.bar-item.result.label ∙ (sym c.is_some.ensures ∙ c.if-is_some.true))
