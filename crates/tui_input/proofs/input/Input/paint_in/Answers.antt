use Rattle.std.proofs.Common.{◌∙◌, ap, sym}
use Rattle.tui_cells.proofs.Painting.{KeptOutside-then, Painted-still}
use Rattle.tui_frames.specs.InBlock.{inner_of}
use Rattle.tui_frames.specs.InBlockStays.{nowhere_if}
use Rattle.tui_frames.proofs.InBlock.{framed, inner_empty, inner_kept}
use Rattle.tui_input.specs.Input.{input_data}
use Rattle.tui_input.specs.Scroll.{with_first}
use Rattle.tui_input.specs.InputSettles.{empty_rests}
use Rattle.tui_input.specs.InputStays.{input_stays}
use Rattle.tui_input.proofs.input.Input.paint_in.Goals as goal

pub returns-then-is_empty-clause-ok : goal.returns-then-is_empty-clause-ok
returns-then-is_empty-clause-ok c =
    let i = input_data c.args.self.now in
    Painted-still c.args.buf.now (input_stays i c.args.state.now c.args.clip) (nowhere_if i.block c.args.clip (sym c.is_empty.ensures ∙ c.if-is_empty.true))

pub returns-clause-ok : goal.returns-clause-ok
returns-clause-ok c =
    let i = input_data c.args.self.now in
    framed c.paint_inside.result i.block i.style c.args.clip _ _ _ _ c.in_ok-inner.ensures.ok (rw c.in_ok-inner.ensures.inside at c.paint_inside.ensures.ok)

pub returns-clause-kept : goal.returns-clause-kept
returns-clause-kept c =
    let i = input_data c.args.self.now in
    KeptOutside-then c.in_ok-inner.ensures.kept (inner_kept i.block c.args.clip (rw c.in_ok-inner.ensures.inside at c.paint_inside.ensures.kept))

pub returns-then-is_empty-clause-state : goal.returns-then-is_empty-clause-state
returns-then-is_empty-clause-state c =
    let i = input_data c.args.self.now in
    let s = c.args.state.now in
    ap (with_first s) c.first.ensures
    ∙ sym (empty_rests i s (inner_of i.block c.args.clip) (inner_empty i.block c.args.clip (sym c.is_empty.ensures ∙ c.if-is_empty.true)))
