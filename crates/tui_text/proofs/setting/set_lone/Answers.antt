use Rattle.std.proofs.Common.{[], All, arith, refl, subst, sym, ◌+◌, ◌∙◌}
use Rattle.std.proofs.lemmas.List.Elements.{All-head}
use Rattle.tui_cells.specs.Cell.{IsAllocationFree}
use Rattle.tui_clusters.proofs.Seams.{lone_cluster}
use Rattle.tui_text.proofs.Settings.{end_more, end_none, end_stop, kept_first, set_more, set_none, set_stop}
use Rattle.tui_text.proofs.setting.set_lone.Goals as goal

pub returns-then-width-room-clause-ok : goal.returns-then-width-room-clause-ok
returns-then-width-room-clause-ok c =
    set_stop _ _ _ _ _ _ _ _ (lone_cluster c.args.text.now c.requires.plain) (rw c.cell_width-width.ensures at c.if-width-room.true)

pub returns-then-width-room-clause-end : goal.returns-then-width-room-clause-end
returns-then-width-room-clause-end c =
    sym (end_stop _ _ _ _ _ (lone_cluster c.args.text.now c.requires.plain) (rw c.cell_width-width.ensures at c.if-width-room.true))

pub returns-in_err-write_cluster-clause-allocation_free : goal.returns-in_err-write_cluster-clause-allocation_free
returns-in_err-write_cluster-clause-allocation_free c = λ all.
    let allocation_free = All-head IsAllocationFree c.args.text.now [] (subst (λ cs. All IsAllocationFree cs) (lone_cluster c.args.text.now c.requires.plain) all) in
    let broken = c.in_err-write_cluster.ensures.allocation_free allocation_free in
    cc

pub returns-clause-ok : goal.returns-clause-ok
returns-clause-ok c =
    let wide = c.cell_width-width.ensures in
    let room = c.if-width-room.false in
    set_more c.args.at.x c.args.at.y c.args.room _ _ c.args.style _ c.args.text.now [] _ _ _
    (lone_cluster c.args.text.now c.requires.plain) (omega (arith, wide, room)) refl refl c.in_ok-write_cluster.ensures.ok (set_none _ _ _ _ [] _ refl)

pub returns-clause-end : goal.returns-clause-end
returns-clause-end c =
    let wide = c.cell_width-width.ensures in
    let room = c.if-width-room.false in
    let next = c.args.at.x + c.cell_width-width.result in
    sym (end_none next _ [] refl)
    ∙ end_more c.args.at.x c.args.room next _ _ c.args.text.now [] (lone_cluster c.args.text.now c.requires.plain) (omega (arith, wide, room)) (omega (arith, wide)) refl

pub returns-in_err-write_cluster-clause-kept : goal.returns-in_err-write_cluster-clause-kept
returns-in_err-write_cluster-clause-kept c =
    kept_first c.args.at.x c.args.at.x c.args.room _ _ c.args.at.y _ c.args.text.now [] _ _ (omega arith) (lone_cluster c.args.text.now c.requires.plain)
    c.cell_width-width.ensures c.if-width-room.false refl c.in_err-write_cluster.ensures.kept

pub returns-clause-kept : goal.returns-clause-kept
returns-clause-kept c =
    kept_first c.args.at.x c.args.at.x c.args.room _ _ c.args.at.y _ c.args.text.now [] _ _ (omega arith) (lone_cluster c.args.text.now c.requires.plain)
    c.cell_width-width.ensures c.if-width-room.false refl c.in_ok-write_cluster.ensures.kept
