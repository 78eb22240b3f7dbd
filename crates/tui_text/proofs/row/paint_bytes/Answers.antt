use Rattle.std.proofs.Common.{◌<◌, arith, length, refl}
use Rattle.tui_text.proofs.PaintedRuns.{painted_run, run_kept}
use Rattle.tui_text.proofs.row.paint_bytes.Goals as goal

pub returns-clause-shown : goal.returns-clause-shown
returns-clause-shown c = λ more.
    let some : 0 < length c.args.bytes.now = grind (arith, c.is_empty.ensures) in
    painted_run c.args.row c.args.skip c.args.place _ c.args.style c.args.bytes.now more _ _
    c.requires.printable (c.requires.inside some) refl c.set_ascii.ensures

pub returns-clause-kept : goal.returns-clause-kept
returns-clause-kept c =
    let some : 0 < length c.args.bytes.now = grind (arith, c.is_empty.ensures) in
    run_kept c.args.row c.args.skip c.args.place _ c.args.style c.args.bytes.now _ _ (c.requires.inside some) refl c.set_ascii.ensures
