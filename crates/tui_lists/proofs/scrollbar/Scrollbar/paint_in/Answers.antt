use Rattle.std.proofs.Common.{◌∙◌, sym}
use Rattle.tui_cells.proofs.Painting.{Painted-empty}
use Rattle.tui_lists.specs.Scrollbar.{scrollbar_data}
use Rattle.tui_lists.specs.ScrollbarStrokes.{scrollbar_stays}
use Rattle.tui_lists.proofs.scrollbar.Scrollbar.paint_in.Goals as goal

pub returns-then-is_empty-clause-ok : goal.returns-then-is_empty-clause-ok
returns-then-is_empty-clause-ok c =
    Painted-empty c.args.clip c.args.buf.now (scrollbar_stays (scrollbar_data c.args.self.now) c.args.state c.args.clip) (sym c.is_empty.ensures ∙ c.if-is_empty.true)
