use Rattle.tui_table.proofs.StatefulDrawing.{redraw_is_idempotent, in_order, row_is_shown}
use Rattle.tui_table.proofs.laws.table_laws.Goals as goal

pub returns : goal.returns
returns c = record { shown = row_is_shown; again = redraw_is_idempotent; columns = in_order }
