use Rattle.std.proofs.Common.{◌≡◌, ◌+◌, drop, take, false, sum_by}
use Rattle.tui_para.specs.Mark.{ends_before, is_blank, size_of}
use Rattle.tui_para.specs.Places.{goes_on_for, line_len, pieces_len}
use Rattle.tui_para.specs.Wrapped.{ends_in, no_blank}
use Rattle.tui_para.proofs.wrapping.breaking.line_at.Given as goal

abbrev pub invariant-loop-i : goal.invariant-loop-i
invariant-loop-i l =
    let read = take l.i l.marks in
    record {
      len : goes_on_for ends_before is_blank size_of (ends_in (no_blank is_blank) false read) (pieces_len ends_before is_blank false 0 0 read) l.i l.room (drop l.i l.marks)
          ≡ line_len ends_before is_blank size_of l.width l.marks;
      room : l.room + sum_by size_of read ≡ l.width;
    }
