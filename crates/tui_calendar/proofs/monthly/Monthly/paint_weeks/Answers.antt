use Rattle.std.proofs.Common.{◌∙◌, ap, arith, min}
use Rattle.tui_cells.proofs.Painting.{KeptOutside-then}
use Rattle.tui_calendar.proofs.MonthSheet.{sheet_painted, weeks_done, weeks_more}
use Rattle.tui_calendar.proofs.monthly.Monthly.paint_weeks.Goals as goal

pub loop-row-preserved : goal.loop-row-preserved
loop-row-preserved g c = record {
  rest = λ final q. c.loop-row.invariant.rest final (weeks_more _ _ _ _ _ _ _ _ _ _ final (omega arith) (rw c.from.ensures at c.saturating_add.ensures) c.in_ok-paint_week.ensures.ok q);
  kept = KeptOutside-then c.loop-row.invariant.kept c.in_ok-paint_week.ensures.kept;
}

pub returns-clause-ok : goal.returns-clause-ok
returns-clause-ok g c =
    sheet_painted _ _ _ c.args.rest _ _ _ (c.cut_weeks-count.ensures ∙ ap (λ n. min n c.args.rest.height) c.weeks.ensures.value)
    (c.loop-row.invariant.rest _ (weeks_done _ _ _ _ _ _ _ _ (omega arith)))
