use Rattle.std.proofs.Common.{◌≡◌, ◌+◌, map}
use Rattle.std.specs.Option.{option_copied}
use Rattle.std.specs.Prelude.{unwrap_or}
use Rattle.tui_clusters.specs.Width.{saturated}
use Rattle.tui_input.specs.Scroll.{columns}
use Rattle.unicode_segmentation.specs.Iter.{graphemes_left}
use Rattle.tui_input.proofs.scroll.columns.Given as goal

abbrev pub invariant-loop-grapheme : goal.invariant-loop-grapheme
invariant-loop-grapheme l =
    (saturated l.width ≡ l.width)
    × (saturated (l.width + columns (map (unwrap_or (option_copied l.mask)) (graphemes_left l.grapheme-iterator)))
    ≡ saturated (columns (map (unwrap_or (option_copied l.mask)) (graphemes_left l.fn.graphemes))))
