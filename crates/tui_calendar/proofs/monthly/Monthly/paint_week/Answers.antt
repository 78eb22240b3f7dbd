use Rattle.std.proofs.Common.{arith}
use Rattle.tui_cells.proofs.Painting.{KeptOutside-then}
use Rattle.tui_calendar.proofs.MonthSheet.{week_done, week_more}
use Rattle.tui_calendar.proofs.monthly.Monthly.paint_week.Goals as goal

pub loop-column-preserved : goal.loop-column-preserved
loop-column-preserved g c = record {
  rest = λ final q. c.loop-column.invariant.rest final (week_more _ _ _ _ _ _ _ _ _ final (omega arith) c.in_ok-paint_place.ensures.ok q);
  kept = KeptOutside-then c.loop-column.invariant.kept c.in_ok-paint_place.ensures.kept;
}

pub returns-clause-ok : goal.returns-clause-ok
returns-clause-ok g c = c.loop-column.invariant.rest _ (week_done _ _ _ _ _ _ _ _ (omega arith))
