use Rattle.tui_table.specs.Table.{table_data}
use Rattle.tui_table.proofs.StatefulDrawing.{table_moves}
use Rattle.tui_table.proofs.table.rendering.TableStatefulWidget.render.Goals as goal

pub returns-clause-shows : goal.returns-clause-shows
returns-clause-shows c = table_moves (table_data c.args.self.now) _ c.args.state.now _ (rw (c.intersection-clip.ensures, c.area.ensures) at c.in_ok-state.ensures.after)
