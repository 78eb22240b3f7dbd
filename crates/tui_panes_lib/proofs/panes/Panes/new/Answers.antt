use Rattle.std.proofs.Common.{◌∙◌, ap, arith}
use Rattle.tui_panes_lib.specs.Panes.{rects_of}
use Rattle.tui_panes_lib.proofs.Kept.{new_kept}
use Rattle.tui_panes_lib.proofs.panes.Panes.new.Goals as goal

pub invariant_of-result : goal.invariant_of-result
invariant_of-result c =
    new_kept c.args.area _ _ _ _ c.in_ok-scene.ensures.placed (c.in-Ok.ensures ∙ ap rects_of c.items.ensures) (omega (arith, c.in-Ok-marks.ensures, c.len.ensures))
