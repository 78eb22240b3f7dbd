use Rattle.std.proofs.Common.{ap}
use Rattle.tui_terminal_model.specs.Pens.{pen_of}
use Rattle.tui_terminal.proofs.styled.is_same_pen.Goals as goal

pub returns-then-is_same : goal.returns-then-is_same
returns-then-is_same c = (λ yes. ap (pen_of c.args.depth) (c.is_same.ensures c.if-is_same.true), λ same. c.if-is_same.true)
