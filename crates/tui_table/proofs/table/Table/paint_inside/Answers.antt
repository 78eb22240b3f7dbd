use Rattle.std.proofs.Common.{sym, ◌∙◌}
use Rattle.tui_cells.proofs.Painting.{Painted-empty}
use Rattle.tui_table.specs.Idempotence.{after_empty}
use Rattle.tui_table.specs.Stays.{content_stays}
use Rattle.tui_table.specs.Table.{table_data}
use Rattle.tui_table.proofs.table.Table.paint_inside.Goals as goal

pub returns-then-is_empty-clause-ok : goal.returns-then-is_empty-clause-ok
returns-then-is_empty-clause-ok c =
    Painted-empty c.args.inner c.args.buf.now (content_stays (table_data c.args.self.now) c.args.inner c.args.state) (sym c.is_empty.ensures ∙ c.if-is_empty.true)

pub returns-then-is_empty-clause-after : goal.returns-then-is_empty-clause-after
returns-then-is_empty-clause-after c = sym (after_empty (table_data c.args.self.now) c.args.inner c.args.state (sym c.is_empty.ensures ∙ c.if-is_empty.true))
