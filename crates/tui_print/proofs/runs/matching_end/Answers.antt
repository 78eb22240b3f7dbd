use Rattle.std.proofs.Common.{arith, ◌≡◌}
use Rattle.tui_print.proofs.runs.matching_end.Goals as goal

pub columns-init : goal.columns-init
columns-init c = λ x low high.
    let there : x ≡ c.args.start = omega arith in
    rw there c.requires.first
