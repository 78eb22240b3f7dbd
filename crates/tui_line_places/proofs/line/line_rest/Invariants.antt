use Rattle.std.proofs.Common.{length}
use Rattle.tui_line_places.proofs.InLine.{InLine}
use Rattle.tui_line_places.proofs.line.line_rest.Given as goal

abbrev pub invariant-graphemes : goal.invariant-graphemes
invariant-graphemes l = InLine l.lines.width l.lines.trim l.text l.word l.rest l.counter

abbrev pub decreases-graphemes : goal.decreases-graphemes
decreases-graphemes l = length l.rest
