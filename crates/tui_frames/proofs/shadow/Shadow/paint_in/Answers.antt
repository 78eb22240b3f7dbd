use Rattle.std.proofs.Common.{sym, ◌∙◌}
use Rattle.tui_cells.proofs.Painting.{Painted-still}
use Rattle.tui_frames.specs.Shadow.{shadow_data}
use Rattle.tui_frames.specs.Stays.{shadow_nowhere, shadow_stays}
use Rattle.tui_frames.proofs.shadow.Shadow.paint_in.Goals as goal

pub returns-then-is_empty-clause-ok : goal.returns-then-is_empty-clause-ok
returns-then-is_empty-clause-ok c =
    let s = shadow_data c.args.self.now in
    Painted-still c.args.buf.now (shadow_stays s c.args.base) (shadow_nowhere s c.args.base (sym c.is_empty.ensures ∙ c.if-is_empty.true))
