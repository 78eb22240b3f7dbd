use Rattle.tui_browse_run.proofs.cutting.whole_lines.Given as goal
use Rattle.tui_browse_run.proofs.Counting.{HasCounted}

abbrev pub invariant-bytes : goal.invariant-bytes
invariant-bytes l = HasCounted l.bytes l.i l.lines.len l.lines.line_feeds
