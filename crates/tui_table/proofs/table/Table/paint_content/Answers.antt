use Rattle.std.proofs.Common.{refl, ◌∙◌}
use Rattle.tui_table.specs.Table.{table_data}
use Rattle.tui_table.proofs.Contents.{after_is, content_painted}
use Rattle.tui_table.proofs.table.Table.paint_content.Goals as goal

pub returns-clause-ok : goal.returns-clause-ok
returns-clause-ok c =
    content_painted (table_data c.args.self.now) c.args.inner c.args.state c.row_after-selected.result c.gutter.result _ c.in_ok-columns.columns.items
    c.args.buf.now _ _ _ c.requires c.row_after-selected.ensures c.gutter.ensures c.in_ok-columns.ensures
    (rw (c.height_if.ensures.rows, c.from.ensures, c.room-room.ensures) refl)
    (rw c.deref.ensures.value at c.in_ok-paint_edge.ensures.ok) (rw c.deref.ensures.value at c.in_ok-paint_body_if.ensures.ok)
    (rw c.deref.ensures.value at c.in_ok-paint_edge-2.ensures.ok)

pub returns-clause-after : goal.returns-clause-after
returns-clause-after c =
    c.after_drawing.ensures
    ∙ after_is (table_data c.args.self.now) c.args.inner c.args.state c.window-window.result _ _ c.requires
    (rw (c.room-room.ensures, c.offset.ensures, c.selected.ensures) at c.window-window.ensures.found) c.row_after-selected.ensures c.column_after.ensures
