use Rattle.std.proofs.Common.{◌≡◌, ◌++◌}
use Rattle.std.specs.List.{repeat}
use Rattle.std.specs.String.{string_bytes}
use Rattle.tui_show_run.proofs.demo.text.push_times.Given as goal

abbrev pub invariant-times : goal.invariant-times
invariant-times l = string_bytes l.text ≡ string_bytes l.fn.text ++ repeat l.i l.letter
