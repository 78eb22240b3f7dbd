use Rattle.tui_bars.proofs.Walks.{value_text_painted}
use Rattle.tui_bars.specs.BarChart.{bar_chart_data}
use Rattle.tui_bars.proofs.bar_chart.BarChart.paint_value_text.Goals as goal

pub returns-clause-ok : goal.returns-clause-ok
returns-clause-ok c =
    value_text_painted (bar_chart_data c.args.self.now) c.args.plan c.args.bar.at c.args.bar.filled c.args.styled.text.now c.args.styled.style _ _ _ c.has_room.result
    c.has_room.ensures (search) c.value_place-place.ensures c.in_ok-set_stringn_in.ensures.ok
