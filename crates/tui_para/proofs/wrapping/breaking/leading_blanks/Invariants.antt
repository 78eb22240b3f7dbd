use Rattle.std.proofs.Common.{◌≡◌, ◌+◌, drop}
use Rattle.tui_para.specs.Mark.{is_blank}
use Rattle.tui_para.specs.Places.{blanks_len}
use Rattle.tui_para.proofs.wrapping.breaking.leading_blanks.Given as goal

abbrev pub invariant-loop-i : goal.invariant-loop-i
invariant-loop-i l = l.i + blanks_len is_blank (drop l.i l.marks) ≡ blanks_len is_blank l.marks
