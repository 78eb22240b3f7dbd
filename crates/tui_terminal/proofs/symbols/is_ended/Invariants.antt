use Rattle.std.proofs.Common.{◌≡◌}
use Rattle.tui_terminal_model.specs.Symbols.{ends_chars}
use Rattle.tui_terminal.proofs.symbols.is_ended.Given as goal

-- the last character so far
abbrev pub invariant-loop-c : goal.invariant-loop-c
invariant-loop-c l = l.ended ≡ ends_chars l.yielded
