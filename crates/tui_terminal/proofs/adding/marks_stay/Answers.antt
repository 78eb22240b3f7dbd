use Rattle.std.proofs.Common.{sym}
use Rattle.tui_terminal.proofs.AddedTexts.{nine_stay}
use Rattle.tui_terminal.proofs.adding.marks_stay.Goals as goal

pub returns : goal.returns
returns c =
    rw (
      sym c.mark_stays.ensures,
      sym c.mark_stays-2.ensures,
      sym c.mark_stays-3.ensures,
      sym c.mark_stays-4.ensures,
      sym c.mark_stays-5.ensures,
      sym c.mark_stays-6.ensures,
      sym c.mark_stays-7.ensures,
      sym c.mark_stays-8.ensures,
      sym c.mark_stays-9.ensures,
    )
    (nine_stay c.mark_stays.result c.mark_stays-2.result c.mark_stays-3.result c.mark_stays-4.result c.mark_stays-5.result c.mark_stays-6.result
    c.mark_stays-7.result c.mark_stays-8.result c.mark_stays-9.result)
