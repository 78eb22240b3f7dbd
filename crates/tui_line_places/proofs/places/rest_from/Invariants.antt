use denote.Text.{Utf8}
use denote.Shadow.{shadow}
use Rattle.tui_line_places.specs.AfterLine.{IsFromLine}
use Rattle.tui_line_places.proofs.places.rest_from.Given as goal

abbrev pub invariant-loop-line : goal.invariant-loop-line
invariant-loop-line l = shadow (Utf8 l.rest) × IsFromLine l.lines.width l.lines.trim l._line l.text l.rest
