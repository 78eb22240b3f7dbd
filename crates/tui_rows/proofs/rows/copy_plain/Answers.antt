use Rattle.std.proofs.Common.{arith, rules, ◌≡◌, ◌+◌}
use Rattle.tui_rows.proofs.RowLemmas.{one_byte, plain_more, row_plain}
use Rattle.tui_rows.proofs.rows.copy_plain.Goals as goal

pub loop-count-preserved : goal.loop-count-preserved
loop-count-preserved c =
    let inv = c.loop-count.invariant in
    let cell = c.index-row-from.result in
    let lt = c.if-count-row.true in
    let (text, low, high) = rw c.symbol.ensures.is at c.in-Some.ensures.some in
    let here = row_plain c.args.row.now (c.args.from + c.loop-count.count) c.in-Some.byte cell (omega (arith, lt)) c.index-row-from.is text (rw text (one_byte c.in-Some.byte low high)) in
    let next : c.args.from + c.loop-count.count + 1 ≡ c.args.from + (c.loop-count.count + 1) = omega arith in
    (omega (arith, c.loop-count-test.true), omega (arith, lt), rw next at (plain_more _ c.loop-count.piece _ c.loop-count.count c.in-Some.byte _ (search (rules, arith)) inv.2 here))
