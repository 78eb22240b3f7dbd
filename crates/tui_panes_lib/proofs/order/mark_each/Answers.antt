use Rattle.std.proofs.Common.{refl, arith, get_or, length, rules}
use Rattle.tui_panes_lib.proofs.Marked.{marked_more, past, twice}
use Rattle.tui_panes_lib.proofs.order.mark_each.Goals.{then-leaf-marks-via-then-leaf-marks, then-leaf-marks-via-else-leaf-marks+then-marks-leaf}
use Rattle.tui_panes_lib.proofs.order.mark_each.Goals as goal

pub returns-then-leaf-marks-clause-other : goal.returns-then-leaf-marks-clause-other
returns-then-leaf-marks-clause-other c =
    let leaf = get_or c.args.order.now c.marking.leaf-index 0 in
    elim c.then-leaf-marks.branch [
      | then-leaf-marks-via-then-leaf-marks w ↦
          λ _. past (length c.args.marks.now) c.marking.leaf-index leaf c.args.order.now c.marking-test.true refl
          (omega (arith, w.if-leaf-marks.true, c.marking.invariant.same_length))
      | then-leaf-marks-via-else-leaf-marks+then-marks-leaf w ↦
          λ _. twice c.marking.marks c.args.order.now _ c.marking.leaf-index leaf c.marking-test.true refl w.if-leaf-marks.false
          c.marking.invariant.same_length w.if-marks-leaf.true c.marking.invariant.marked
    ]

pub marking-preserved : goal.marking-preserved
marking-preserved c =
    let leaf = get_or c.args.order.now c.marking.leaf-index 0 in
    record {
      marked = marked_more c.marking.marks c.args.order.now c.marking.leaf-index leaf c.marking-test.true refl c.if-leaf-marks.false
          c.if-marks-leaf.false c.marking.invariant.marked;
      same_length = search rules;
    }
