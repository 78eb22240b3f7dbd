use Rattle.std.proofs.Common.{refl, sym, ◌∙◌, ap, set}
use Rattle.tui_para.specs.declared.wrapping.mark.Mark.{Mark}
use Rattle.tui_para.proofs.MarkedSplits.{all_after, all_marks, after_on, blank_is, left_on, long_on, marks_on}
use Rattle.tui_para.proofs.wrapping.marked.mark_splits.Goals as goal

pub loop-i-init : goal.loop-i-init
loop-i-init c = record { marks = refl; after = refl; left = refl; long = sym c.requires.marked.together }

pub after-after-requires : goal.after-after-requires
after-after-requires c =
    let k = c.loop-i.invariant in
    let near = c.loop-i-test.true in
    ap (λ (m : Mark). m.blank) c.index.ensures ∙ blank_is c.args.graphemes.now c.args.marks.now.items c.loop-i.marks.items c.loop-i.i c.index.result.now _ c.requires.marked k.long k.left near

pub loop-i-preserved : goal.loop-i-preserved
loop-i-preserved c =
    let gs = c.args.graphemes.now in
    let old = c.args.marks.now.items in
    let ms = c.loop-i.marks.items in
    let i = c.loop-i.i in
    let h = c.loop-i.last in
    let b = c.after-after.result in
    let split = c.splits_before.result in
    let m = c.index_mut.result.now in
    let new = set ms i (record m { split = split }) in
    let k = c.loop-i.invariant in
    let near = c.loop-i-test.true in
    let change = ap (λ (n : Mark). set ms i (record n { split = split })) c.index_mut.ensures.value in
    record {
      marks = marks_on gs old ms i m _ c.requires.marked k.long k.left near h b split new c.splits_before.ensures c.after-after.ensures change ∙ k.marks;
      after = after_on gs old ms i m _ c.requires.marked k.long k.left near h b split new c.splits_before.ensures c.after-after.ensures change ∙ k.after;
      left = left_on gs old ms i m _ c.requires.marked k.long k.left near h b split new c.splits_before.ensures c.after-after.ensures change;
      long = long_on gs old ms i m _ c.requires.marked k.long k.left near h b split new c.splits_before.ensures c.after-after.ensures change;
    }

pub returns-clause-after : goal.returns-clause-after
returns-clause-after c =
    let k = c.loop-i.invariant in
    all_after c.args.graphemes.now c.loop-i.marks.items c.loop-i.last c.loop-i.i k.long c.loop-i-test.false ∙ k.after

pub returns-clause-marks : goal.returns-clause-marks
returns-clause-marks c =
    let k = c.loop-i.invariant in
    all_marks c.args.graphemes.now c.loop-i.marks.items c.loop-i.last c.loop-i.i k.long c.loop-i-test.false ∙ k.marks
