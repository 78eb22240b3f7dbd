use Rattle.tui_calendar.proofs.MonthSheet.{slot_painted}
use Rattle.tui_calendar.proofs.monthly.rendering.paint_slot.Goals as goal

pub returns-clause-ok : goal.returns-clause-ok
returns-clause-ok c =
    slot_painted c.write_text-2.result c.args.inner _ _ _ _ _ _ _ _ _ _ c.saturating_add.ensures c.as_str.ensures.value
    c.in_ok-write_text.ensures.ok c.write_text-2.ensures.ok
