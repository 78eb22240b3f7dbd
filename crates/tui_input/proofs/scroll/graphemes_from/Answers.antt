use Rattle.std.proofs.Common.{drop, ap, true, ◌∙◌}
use Rattle.std.proofs.lemmas.List.{drop-drop}
use Rattle.unicode_segmentation.specs.Grapheme.{graphemes}
use Rattle.tui_input.proofs.scroll.graphemes_from.Goals as goal

pub loop-place-preserved : goal.loop-place-preserved
loop-place-preserved c = c.skip_one.ensures ∙ ap (drop 1) c.loop-place.invariant ∙ drop-drop 1 c.loop-place._place (graphemes true c.args.text.now)
