use Rattle.std.proofs.Common.{◌≡◌, map, string_bytes, take}
use Rattle.tui_system.proofs.mem_system.MemSystemSystem.arguments.Given as goal

-- the first arguments are copied
abbrev pub invariant-loop-argument : goal.invariant-loop-argument
invariant-loop-argument l =
    map string_bytes l.all.items ≡ map string_bytes (take l.argument-index l.self-inside.arguments.items)
