use Rattle.std.proofs.Common.{[], All, subst}
use Rattle.std.proofs.lemmas.List.Elements.{All-head}
use Rattle.tui_cells.specs.Cell.{IsAllocationFree}
use Rattle.tui_text.proofs.Elements.{if_ok}
use Rattle.tui_text.proofs.PaintedRuns.{painted_next}
use Rattle.tui_clusters.proofs.Seams.{lone_cluster}
use Rattle.tui_text.proofs.row.paint_others.Goals as goal

pub returns-then-is_plain_char-clause-shown : goal.returns-then-is_plain_char-clause-shown
returns-then-is_plain_char-clause-shown c =
    let lone = lone_cluster c.args.text.now (c.is_plain_char.ensures.0 c.if-is_plain_char.true) in
    if_ok c.paint_cluster.result (λ next p. painted_next c.args.row c.args.skip c.args.place next c.args.style c.args.text.now [] _ _ _ lone p)
    c.paint_cluster.ensures.shown

pub returns-then-is_plain_char-clause-allocation_free : goal.returns-then-is_plain_char-clause-allocation_free
returns-then-is_plain_char-clause-allocation_free c = λ all.
    let lone = lone_cluster c.args.text.now (c.is_plain_char.ensures.0 c.if-is_plain_char.true) in
    c.paint_cluster.ensures.allocation_free (All-head IsAllocationFree c.args.text.now [] (subst (λ cs. All IsAllocationFree cs) lone all))
