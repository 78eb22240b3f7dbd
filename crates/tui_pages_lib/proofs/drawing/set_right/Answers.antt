use Rattle.std.proofs.Common.{arith, ap, ◌∙◌, min, length}
use Rattle.tui_cells.specs.Rect.{intersection_of}
use Rattle.tui_pages_lib.proofs.Numbers.{clip_kept, right_set}
use Rattle.tui_pages_lib.proofs.drawing.set_right.Goals as goal

pub returns-in_err-set_stringn_in-clause-kept : goal.returns-in_err-set_stringn_in-clause-kept
returns-in_err-set_stringn_in-clause-kept c =
    clip_kept c.args.area c.intersection-clip.result c.args.buf.now c.set_stringn_in.new.buf
    (c.intersection-clip.ensures ∙ ap (intersection_of c.args.area) c.area.ensures) c.set_stringn_in.ensures.kept

pub returns-clause-ok : goal.returns-clause-ok
returns-clause-ok c =
    right_set c.args.area c.intersection-clip.result _ c.min-room.result c.new.result c.args.text.now c.args.buf.now c.set_stringn_in.new.buf
    (c.intersection-clip.ensures ∙ ap (intersection_of c.args.area) c.area.ensures)
    (c.min-room.ensures ∙ ap (λ n. min n (length c.args.text.now)) c.from.ensures) (omega (arith, c.right.ensures)) c.new.ensures
    c.in_ok-set_stringn_in.ensures.ok

pub returns-clause-kept : goal.returns-clause-kept
returns-clause-kept c =
    clip_kept c.args.area c.intersection-clip.result c.args.buf.now c.set_stringn_in.new.buf
    (c.intersection-clip.ensures ∙ ap (intersection_of c.args.area) c.area.ensures) c.set_stringn_in.ensures.kept
