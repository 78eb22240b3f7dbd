-- Computing the clusters of literal texts.
use Rattle.std.specs.Str.{chars}
use Rattle.ucd_breaks.proofs.Computing.{ucd_breaks}
use Rattle.ucd_derived.proofs.Computing.{ucd_derived}
use Rattle.ucd_emoji.proofs.Computing.{ucd_emoji}
use Rattle.unicode_segmentation.specs.Grapheme.{ends_in_half_flag, ends_in_linker, is_grapheme_break}
use Rattle.unicode_segmentation.specs.Segments.{segments, cut}
use Rattle.tui_clusters.specs.Shown.{has_control}

-- `unfolding clusters_of_text` lets `refl` compute the clusters of a literal text
unfoldable pub clusters_of_text : Unit {0}
unfolding ucd_breaks ucd_derived ucd_emoji chars lib.Utf8.encode ends_in_half_flag ends_in_linker is_grapheme_break segments cut has_control
clusters_of_text = tt
