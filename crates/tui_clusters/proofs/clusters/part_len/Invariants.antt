use Rattle.std.proofs.Common.{length}
use denote.Text.{Utf8}
use denote.Shadow.{shadow}
use Rattle.tui_clusters.proofs.PlainReading.{IsRead}
use Rattle.tui_clusters.proofs.clusters.part_len.Given as goal

abbrev pub invariant-chars : goal.invariant-chars
invariant-chars l = shadow (Utf8 l.rest) × IsRead l.text l.rest l.plain

abbrev pub decreases-chars : goal.decreases-chars
decreases-chars l = length l.rest
