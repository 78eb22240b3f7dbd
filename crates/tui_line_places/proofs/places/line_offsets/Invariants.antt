use Rattle.std.proofs.Common.{length}
use denote.Text.{Utf8}
use denote.Shadow.{shadow}
use Rattle.tui_line_places.specs.Reading.{HasPassed}
use Rattle.tui_line_places.proofs.places.line_offsets.Given as goal

abbrev pub invariant-lines : goal.invariant-lines
invariant-lines l = shadow (Utf8 l.rest) × HasPassed l.lines.width l.lines.trim l.text l.places.items l.rest

abbrev pub decreases-lines : goal.decreases-lines
decreases-lines l = length l.rest
