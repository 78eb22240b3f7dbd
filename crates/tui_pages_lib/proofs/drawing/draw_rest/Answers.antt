use Rattle.std.proofs.Common.{◌≡◌, ◌<◌, ◌⊎◌, subst, sym}
use Rattle.std.specs.Prelude.{IfSome, IsUtf8}
use Rattle.tui_pages_lib.specs.Starts.{ContinuesFrom}
use Rattle.tui_pages_lib.specs.declared.drawing.Resumed.{Resumed}
use Rattle.tui_pages_lib.proofs.ContinuesFromByte.{continues_from}
use Rattle.tui_pages_lib.proofs.drawing.draw_rest.Goals as goal

pub draw_from-requires-clause-continues : goal.draw_from-requires-clause-continues
draw_from-requires-clause-continues c =
    let known = subst (λ o. IfSome o (λ (r : Resumed). (c.args.rest.line ≡ 0) × (r.start ≡ 0)
    ⊎ (0 < c.args.place.width → ContinuesFrom c.args.place.width c.args.rest.line c.args.rest.cell.now r.start))) c.in-Some.is c.requires in
    subst (λ w. ContinuesFrom w c.args.rest.line c.args.rest.cell.now c.in-Some.from.start) (sym c.if-clip-width.true)
    (continues_from c.args.place.width c.args.rest.line c.in-Some.from.start c.args.rest.cell.now (subst IsUtf8 c.cell-cell.ensures c.cell-cell.utf8) c.if-width-gt0.true known)
