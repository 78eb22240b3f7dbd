use Rattle.std.proofs.Common.{length, map}
use Rattle.std.specs.Option.{option_copied}
use Rattle.std.specs.Prelude.{unwrap_or}
use Rattle.tui_input.specs.Scroll.{shown}
use Rattle.tui_input.proofs.Starts.{IsCounting}
use Rattle.unicode_segmentation.specs.Iter.{graphemes_left}
use Rattle.tui_input.proofs.scroll.start_in.Given as goal

abbrev pub invariant-loop-grapheme : goal.invariant-loop-grapheme
invariant-loop-grapheme l =
    IsCounting l.room (shown (option_copied l.mask) l.text) (map (unwrap_or (option_copied l.mask)) (graphemes_left l.left)) l.start l.free

abbrev pub decreases-loop-grapheme : goal.decreases-loop-grapheme
decreases-loop-grapheme l = length (graphemes_left l.left)
