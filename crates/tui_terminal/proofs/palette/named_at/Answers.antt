use Rattle.std.proofs.Common.{arith}
use Rattle.tui_terminal.proofs.Nearest.{name_is, names_long}
use Rattle.tui_terminal.proofs.palette.named_at.Goals as goal

pub bounds-names-n : goal.bounds-names-n
bounds-names-n c = omega (arith, names_long c.names.result.now c.names.ensures, c.requires)

pub returns : goal.returns
returns c = name_is c.names.result.now c.args.n _ c.names.ensures c.requires
