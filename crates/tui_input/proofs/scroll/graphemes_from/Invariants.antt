use Rattle.std.proofs.Common.{◌≡◌, drop, true}
use Rattle.unicode_segmentation.specs.Grapheme.{graphemes}
use Rattle.unicode_segmentation.specs.Iter.{graphemes_left}
use Rattle.tui_input.proofs.scroll.graphemes_from.Given as goal

abbrev pub invariant-loop-place : goal.invariant-loop-place
invariant-loop-place l = graphemes_left l.left ≡ drop l._place (graphemes true l.text)
