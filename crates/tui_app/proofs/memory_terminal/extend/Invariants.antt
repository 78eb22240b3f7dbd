use Rattle.std.proofs.Common.{◌≡◌, ◌+◌, ◌≤◌, ◌++◌, take, map, vec_capacity}
use Rattle.tui_app.proofs.memory_terminal.extend.Given as goal

abbrev pub invariant-bytes : goal.invariant-bytes
invariant-bytes l =
    record {
      items : l.trace.items ≡ l.fn.trace.items ++ map (λ b. l.above + b) (take l.i l.bytes);
      capacity : vec_capacity l.fn.trace ≤ vec_capacity l.trace;
    }
