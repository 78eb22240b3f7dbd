use Rattle.tui_calendar.proofs.MonthSheet.{content_painted}
use Rattle.tui_calendar.proofs.monthly.Monthly.paint_content.Goals as goal

pub returns-clause-ok : goal.returns-clause-ok
returns-clause-ok g c =
    content_painted c.paint_weeks.result _ _ _ _ _ _ _ _ _ c.below_header-rest.ensures c.below_header.ensures
    c.in_ok-paint_month.ensures.ok c.in_ok-paint_weekdays.ensures.ok c.paint_weeks.ensures.ok
