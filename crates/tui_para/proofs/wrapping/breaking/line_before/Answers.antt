use Rattle.std.proofs.Common.{◌≡◌, ◌+◌, ◌-◌, ◌∙◌, ap, inl, inr, false, get_or, take, sum_by, sym, rules, arith}
use Rattle.std.specs.Prelude.{◌⊎◌, true}
use Rattle.std.proofs.lemmas.List.{take_more}
use Rattle.std.proofs.lemmas.List.Sums.{sum_by_push}
use Rattle.tui_para.specs.Mark.{ends_before, is_blank, size_of}
use Rattle.tui_para.specs.declared.wrapping.mark.Mark.{Mark}
use Rattle.tui_para.proofs.BrokenLines.{ends_there, none_there}
use Rattle.tui_para.proofs.wrapping.breaking.line_before.Goals.{else-ends_piece-via-then-ends_piece+else-not-marks-place, else-ends_piece-via-else-ends_piece}
use Rattle.tui_para.proofs.wrapping.breaking.line_before.Goals as goal

pub returns-then-not-marks-place-clause-len : goal.returns-then-not-marks-place-clause-len
returns-then-not-marks-place-clause-len c =
    let near = c.loop-back-test.true in
    let within = c.requires.within in
    let ends = sym c.ends_piece.ensures ∙ c.if-ends_piece.true in
    let d : Mark = record { width = 0; blank = false; split = false } in
    ends_there ends_before is_blank size_of c.args.marks.now c.args.here.len (c.args.here.len - c.loop-back.back) d d (omega arith) (omega arith) ends (search rules) c.loop-back.invariant.ended

pub loop-back-preserved : goal.loop-back-preserved
loop-back-preserved c =
    let ms = c.args.marks.now in
    let near = c.loop-back-test.true in
    let within = c.requires.within in
    let place = c.args.here.len - c.loop-back.back in
    let d : Mark = record { width = 0; blank = false; split = false } in
    let m : Mark = get_or ms (place - 1) d in
    let none : (ends_before (get_or ms place d) ≡ false) ⊎ (m.blank ≡ true) = elim c.else-ends_piece.branch [
      | else-ends_piece-via-then-ends_piece+else-not-marks-place w ↦ inr (search rules)
      | else-ends_piece-via-else-ends_piece w ↦ inl (sym c.ends_piece.ensures ∙ w.if-ends_piece.false)
    ] in
    let last : place - 1 + 1 ≡ place = omega arith in
    let back : c.args.here.len - (c.loop-back.back + 1) ≡ place - 1 = omega arith in
    let sums : sum_by size_of (take place ms) ≡ sum_by size_of (take (place - 1) ms) + m.width =
    ap (λ k. sum_by size_of (take k ms)) (sym last) ∙ (ap (sum_by size_of) (take_more ms (place - 1) d (omega arith)) ∙ sum_by_push size_of (take (place - 1) ms) m) in
    let front : sum_by size_of (take (c.args.here.len - (c.loop-back.back + 1)) ms) ≡ sum_by size_of (take (place - 1) ms) = ap (λ k. sum_by size_of (take k ms)) back in
    let room = c.loop-back.invariant.room in
    record {
      ended = none_there ends_before is_blank size_of ms c.args.here.len place d d (omega arith) (omega arith) none c.loop-back.invariant.ended _ (omega arith);
      room = omega arith;
    }
