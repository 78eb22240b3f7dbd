use Rattle.std.proofs.Common.{arith, rules, length, sym, ◌∙◌, ◌≡◌, ◌+◌, ◌*◌}
use Rattle.tui_rows.proofs.RowLemmas.{row_narrow, three_more}
use Rattle.tui_rows.proofs.rows.copy_same.Goals as goal

pub loop-count-preserved : goal.loop-count-preserved
loop-count-preserved c =
    let n = c.loop-count.count in
    let at = c.args.from + n in
    let lt = c.loop-count-test.true in
    let cell = c.index-row-from.result in
    let text = sym c.symbol.ensures.is ∙ c.is_text.ensures (search rules) in
    let here = row_narrow c.args.row.now at c.args.symbol cell (omega (arith, lt)) c.index-row-from.is text c.requires.narrow in
    let room : length c.loop-count.piece ≡ 192 = search rules in
    let next : at + 1 ≡ c.args.from + (n + 1) = omega arith in
    let end : 3 * (n + 1) ≡ 3 * n + 3 = omega arith in
    record {
      within = omega (arith, lt);
      copied = rw next at (three_more _ c.loop-count.piece _ c.args.symbol _ (3 * n) (3 * (n + 1)) (search rules) (omega (arith, lt)) end c.loop-count.invariant.copied here);
    }
