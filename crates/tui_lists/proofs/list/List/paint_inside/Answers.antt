use Rattle.std.proofs.Common.{◌∙◌, sym}
use Rattle.tui_cells.proofs.Painting.{Painted-empty}
use Rattle.tui_lists.specs.List.{list_data}
use Rattle.tui_lists.specs.ListIdempotence.{list_rests}
use Rattle.tui_lists.specs.ListStays.{content_stays}
use Rattle.tui_lists.proofs.list.List.paint_inside.Goals as goal

pub returns-then-is_empty-clause-ok : goal.returns-then-is_empty-clause-ok
returns-then-is_empty-clause-ok c =
    Painted-empty c.args.inner c.args.buf.now (content_stays (list_data c.args.self.now) c.args.inner c.args.state) (sym c.is_empty.ensures ∙ c.if-is_empty.true)

pub returns-then-is_empty-clause-state : goal.returns-then-is_empty-clause-state
returns-then-is_empty-clause-state c = sym (list_rests (list_data c.args.self.now) c.args.state c.args.inner (sym c.is_empty.ensures ∙ c.if-is_empty.true))
