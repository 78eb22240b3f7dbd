use Rattle.std.proofs.Common.{◌≡◌, ◌+◌, ◌-◌, take, false, sum_by}
use Rattle.tui_para.specs.Mark.{ends_before, is_blank, size_of}
use Rattle.tui_para.specs.Places.{pieces_len}
use Rattle.tui_para.proofs.wrapping.breaking.line_before.Given as goal

abbrev pub invariant-loop-back : goal.invariant-loop-back
invariant-loop-back l =
    let ended = pieces_len ends_before is_blank false 0 0 in
    record {
      ended : ended (take (l.here.len - l.back + 1) l.marks) ≡ ended (take (l.here.len + 1) l.marks);
      room : l.room + sum_by size_of (take (l.here.len - l.back) l.marks) ≡ l.here.room + sum_by size_of (take l.here.len l.marks);
    }
