use Rattle.std.proofs.Common.{[], ◌∷◌}
use Rattle.tui_cells.specs.Cell.{set_style}
use Rattle.tui_frames.proofs.Shading.{four_painted}
use Rattle.tui_frames.proofs.shadow.parts.set_style_outside.Goals as goal

pub returns : goal.returns
returns c =
    four_painted c.args.area c.args.base (set_style c.args.style ∷ []) _ _ _ _ _
    (rw c.part.ensures at c.set_style.ensures) (rw c.part-2.ensures at c.set_style-2.ensures)
    (rw c.part-3.ensures at c.set_style-3.ensures) (rw c.part-4.ensures at c.set_style-4.ensures)
