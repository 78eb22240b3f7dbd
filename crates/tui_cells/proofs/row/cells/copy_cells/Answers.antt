use Rattle.std.proofs.Common.{arith}
use Rattle.std.proofs.lemmas.List.{ext_get_or}
use Rattle.tui_cells.specs.Cell.{blank}
use Rattle.tui_cells.proofs.row.cells.copy_cells.Goals as goal

pub returns-clause-ok : goal.returns-clause-ok
returns-clause-ok c =
    let is = c.places.invariant in
    ext_get_or blank c.places.cells.items c.args.others.now is.2 (λ i lt. is.0 i (omega (arith, is.2, c.places-test.false)))
