use Rattle.std.proofs.Common.{◌≡◌, map, sum, min}
use Rattle.tui_terminal_model.specs.Terminal.{reach_of}
use Rattle.tui_terminal.proofs.symbols.is_within_reach.Given as goal

-- the columns of the characters so far
abbrev pub invariant-loop-c : goal.invariant-loop-c
invariant-loop-c l = l.columns ≡ min (sum (map reach_of l.yielded)) 18446744073709551615
