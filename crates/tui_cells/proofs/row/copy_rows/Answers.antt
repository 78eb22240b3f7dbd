use Rattle.std.proofs.Common.{[], arith}
use Rattle.std.proofs.lemmas.List.{ext_get_or}
use Rattle.tui_cells.proofs.row.copy_rows.Goals as goal

pub returns-clause-ok : goal.returns-clause-ok
returns-clause-ok c =
    let is = c.rows.invariant in
    ext_get_or [] c.rows.rows.items c.args.others.now is.2 (λ i lt. is.0 i (omega (arith, is.2, c.rows-test.false)))
