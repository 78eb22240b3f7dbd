use Rattle.tui_calendar.proofs.MonthSheet.{weekdays_painted}
use Rattle.tui_calendar.proofs.monthly.Monthly.paint_weekdays.Goals as goal

pub returns-in-Some-clause-ok : goal.returns-in-Some-clause-ok
returns-in-Some-clause-ok g c = weekdays_painted c.write_text.result _ _ _ _ _ _ _ c.in-Some.is c.from-room.ensures c.write_text.ensures.ok
