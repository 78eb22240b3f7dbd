use Rattle.std.proofs.Common.{◌∙◌, sym}
use Rattle.tui_cells.proofs.Painting.{KeptOutside-then, Painted-still}
use Rattle.tui_frames.specs.InBlock.{inner_of}
use Rattle.tui_frames.specs.InBlockStays.{nowhere_if}
use Rattle.tui_frames.proofs.InBlock.{framed, inner_empty, inner_kept}
use Rattle.tui_lists.specs.List.{list_data}
use Rattle.tui_lists.specs.ListIdempotence.{list_rests}
use Rattle.tui_lists.specs.ListStays.{list_stays}
use Rattle.tui_lists.proofs.list.List.paint_in.Goals as goal

pub returns-then-is_empty-clause-ok : goal.returns-then-is_empty-clause-ok
returns-then-is_empty-clause-ok c =
    let l = list_data c.args.self.now in
    Painted-still c.args.buf.now (list_stays l c.args.state c.args.clip) (nowhere_if l.block c.args.clip (sym c.is_empty.ensures ∙ c.if-is_empty.true))

pub returns-then-is_empty-clause-state : goal.returns-then-is_empty-clause-state
returns-then-is_empty-clause-state c =
    let l = list_data c.args.self.now in
    sym (list_rests l c.args.state (inner_of l.block c.args.clip) (inner_empty l.block c.args.clip (sym c.is_empty.ensures ∙ c.if-is_empty.true)))

pub returns-clause-ok : goal.returns-clause-ok
returns-clause-ok c =
    let l = list_data c.args.self.now in
    framed c.paint_inside.result l.block l.style c.args.clip _ _ _ _ c.in_ok-inner.ensures.ok (rw c.in_ok-inner.ensures.inside at c.paint_inside.ensures.ok)

pub returns-clause-kept : goal.returns-clause-kept
returns-clause-kept c =
    let l = list_data c.args.self.now in
    KeptOutside-then c.in_ok-inner.ensures.kept (inner_kept l.block c.args.clip (rw c.in_ok-inner.ensures.inside at c.paint_inside.ensures.kept))
