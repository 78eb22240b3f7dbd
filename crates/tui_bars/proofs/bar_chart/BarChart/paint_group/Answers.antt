use Rattle.tui_bars.proofs.Walks.{group_rows, group_texts}
use Rattle.tui_bars.proofs.bar_chart.BarChart.paint_group.Goals as goal

pub returns-in_ok-paint_group_label-in-Texts-clause-ok : goal.returns-in_ok-paint_group_label-in-Texts-clause-ok
returns-in_ok-paint_group_label-in-Texts-clause-ok c =
    group_texts _ _ _ _ _ _ _ _ c.in-Texts.is c.in_ok-paint_group_label-in-Texts.ensures.ok c.paint_bars-in-Texts.ensures.ok

pub returns-in_ok-paint_bars-in-Rows-clause-ok : goal.returns-in_ok-paint_bars-in-Rows-clause-ok
returns-in_ok-paint_bars-in-Rows-clause-ok c =
    group_rows _ _ _ _ _ _ _ _ c.in-Rows.is c.in_ok-paint_bars-in-Rows.ensures.ok c.paint_group_row.ensures.ok
