use Rattle.std.proofs.Common.{All, List, length, map, ◌++◌}
use Rattle.tui_cells.specs.Cell.{IsAllocationFree}
use Rattle.tui_cells.specs.Layers.{KeptOutside}
use Rattle.tui_text.specs.Grapheme.{Glyph}
use Rattle.tui_clusters.specs.Clusters.{clusters_left}
use Rattle.tui_clusters.specs.Shown.{clusters}
use Rattle.tui_text.specs.Graphemes.{glyph_in}
use Rattle.tui_text.specs.Painting.{row_part}
use Rattle.tui_text.specs.Row.{ShownUpTo}
use Rattle.tui_text.proofs.row.paint_mixed.Given as goal

-- what is left to paint completes the whole
abbrev pub invariant-clusters : goal.invariant-clusters
invariant-clusters l = record {
  shown : (more : List Glyph) → ShownUpTo l.row l.skip l.start (map (glyph_in l.style) (clusters l.text) ++ more)
      l.place (map (glyph_in l.style) (clusters_left l.clusters) ++ more) l.fn.buf l.buf;
  allocation_free : All IsAllocationFree (clusters l.text) → All IsAllocationFree (clusters_left l.clusters);
  kept : KeptOutside (row_part l.row) l.fn.buf l.buf;
}

abbrev pub decreases-clusters : goal.decreases-clusters
decreases-clusters l = length (clusters_left l.clusters)
