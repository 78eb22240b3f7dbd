use Rattle.std.proofs.Common.{◌≡◌, drop, false}
use Rattle.tui_terminal_model.specs.Symbols.{is_quiet_from}
use Rattle.tui_terminal.proofs.symbols.is_quiet_text.Given as goal

-- the remaining bytes decide
abbrev pub invariant-bytes : goal.invariant-bytes
invariant-bytes l = is_quiet_from l.after (drop l.i l.bytes) ≡ is_quiet_from false l.bytes
