-- The clusters that are still to come.
use Rattle.std.specs.Option.{option_map_or}
use Rattle.std.specs.Prelude.{ℕ, true, List, [], ◌++◌, filter}
use Rattle.tui_clusters.specs.Shown.{is_shown}
use Rattle.tui_clusters.specs.declared.clusters.Clusters.{Clusters}
use Rattle.unicode_segmentation.specs.Grapheme.{graphemes}
use Rattle.unicode_segmentation.specs.Iter.{graphemes_left}

-- those of the current part
abbrev pub part_left : Clusters → List (List ℕ)
part_left s = option_map_or graphemes_left s.inner []

-- those of the current part and of the text after it
abbrev pub clusters_left : Clusters → List (List ℕ)
clusters_left s = filter is_shown (part_left s ++ graphemes true s.rest.now)
