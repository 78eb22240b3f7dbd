use Rattle.std.proofs.Common.{◌≡◌, drop}
use Rattle.tui_system.specs.MemSystem.{first_file}
use Rattle.tui_system.proofs.mem_system.file_of.Given as goal

-- no file before has this name
abbrev pub invariant-loop-file : goal.invariant-loop-file
invariant-loop-file l = first_file (drop l.file-index l.files) l.name ≡ first_file l.files l.name
