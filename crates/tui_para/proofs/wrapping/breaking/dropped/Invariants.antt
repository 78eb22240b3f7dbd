use Rattle.std.proofs.Common.{◌≡◌, ◌+◌, drop}
use Rattle.tui_para.specs.Mark.{is_blank, size_of}
use Rattle.tui_para.specs.Places.{dropped_len}
use Rattle.tui_para.proofs.wrapping.breaking.dropped.Given as goal

abbrev pub invariant-loop-i : goal.invariant-loop-i
invariant-loop-i l = l.i + dropped_len is_blank size_of l.left (drop l.i l.marks) ≡ dropped_len is_blank size_of l.room l.marks
