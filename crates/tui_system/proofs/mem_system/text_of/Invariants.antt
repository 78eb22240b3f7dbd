use Rattle.std.proofs.Common.{◌≡◌, drop}
use Rattle.tui_system.specs.MemSystem.{text_of}
use Rattle.tui_system.proofs.mem_system.text_of.Given as goal

-- no variable before has this name
abbrev pub invariant-loop-variable : goal.invariant-loop-variable
invariant-loop-variable l = text_of (drop l.variable-index l.variables) l.name ≡ text_of l.variables l.name
