use Rattle.std.proofs.Common.{arith, drop, sym, subst}
use Rattle.tui_para.proofs.Painted.{drop_next, drop_past}
use Rattle.tui_para.proofs.painting.rows.skip_lines.Goals as goal

pub returns-in-None-clause-skipped : goal.returns-in-None-clause-skipped
returns-in-None-clause-skipped g c = λ lines h.
    let k = rw (c.in_ok-next_line.was, c.in-None.is) at c.next_line.follows.holds-at-none in
    let none = k.1.2.takes (drop c.lines._line lines) (c.lines.invariant.skipped lines h) in
    subst (g.C.LineComposer.must_yield c.next_line.follows.lender-at-none) (sym (drop_past lines c.lines._line c.args.count (omega arith) none.0)) none.1

pub lines-preserved : goal.lines-preserved
lines-preserved g c =
    let k = rw (c.in_ok-next_line.was, c.in-Some.is) at c.next_line.follows.holds-at-none in
    record {
      ready = k.0;
      skipped = λ lines h.
          let first = k.1.2.takes (drop c.lines._line lines) (c.lines.invariant.skipped lines h) in
          subst (g.C.LineComposer.must_yield c.next_line.follows.lender-at-none) (sym (drop_next lines c.lines._line _ first.0 first.1)) first.2;
    }
