use Rattle.std.proofs.Common.{◌≡◌, ◌+◌, ◌∙◌, ap, false, get_or, take, sum_by, arith}
use Rattle.std.proofs.lemmas.List.{take_more}
use Rattle.std.proofs.lemmas.List.Sums.{sum_by_push}
use Rattle.tui_para.specs.Mark.{ends_before, is_blank, size_of}
use Rattle.tui_para.specs.declared.wrapping.mark.Mark.{Mark}
use Rattle.tui_para.proofs.BrokenLines.{breaks_at, fits_at}
use Rattle.tui_para.proofs.wrapping.breaking.line_at.Goals as goal

pub returns-then-mark-room-clause-len : goal.returns-then-mark-room-clause-len
returns-then-mark-room-clause-len c =
    c.line_before.ensures.len
    ∙ (breaks_at ends_before is_blank size_of c.args.marks.now c.loop-i.i _ c.loop-i-test.true c.loop-i.room c.if-mark-room.true ∙ c.loop-i.invariant.len)

pub loop-i-preserved : goal.loop-i-preserved
loop-i-preserved c =
    let ms = c.args.marks.now in
    let i = c.loop-i.i in
    let near = c.loop-i-test.true in
    let fits = c.if-mark-room.false in
    let m : Mark = get_or ms i (record { width = 0; blank = false; split = false }) in
    let more : sum_by size_of (take (i + 1) ms) ≡ sum_by size_of (take i ms) + m.width = ap (sum_by size_of) (take_more ms i _ near) ∙ sum_by_push size_of (take i ms) m in
    let room = c.loop-i.invariant.room in
    record {
      len = fits_at ends_before is_blank size_of ms i _ near c.loop-i.room fits ∙ c.loop-i.invariant.len;
      room = omega arith;
    }
