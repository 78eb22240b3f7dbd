use Rattle.std.proofs.Common.{arith}
use Rattle.tui_layout.proofs.Totals.{total-turned}
use Rattle.tui_layout.proofs.binary_search.end_from.Goals as goal

pub greatest-requires-clause-start : goal.greatest-requires-clause-start
greatest-requires-clause-start g c = omega (arith, total-turned c.args.sums.now c.args.first c.args.first (omega arith))
