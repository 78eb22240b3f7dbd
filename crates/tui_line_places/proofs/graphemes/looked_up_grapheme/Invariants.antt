use Rattle.std.proofs.Common.{length}
use denote.Text.{Utf8}
use denote.Shadow.{shadow}
use Rattle.tui_line_places.specs.Next.{IsHiddenUpTo}
use Rattle.tui_line_places.proofs.graphemes.looked_up_grapheme.Given as goal

abbrev pub invariant-clusters : goal.invariant-clusters
invariant-clusters l = shadow (Utf8 l.rest) × IsHiddenUpTo l.max_width l.text l.rest

abbrev pub decreases-clusters : goal.decreases-clusters
decreases-clusters l = length l.rest
