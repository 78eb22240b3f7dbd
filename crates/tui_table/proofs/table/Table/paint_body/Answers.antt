use Rattle.std.proofs.Common.{◌+◌, ap, min, sym, ◌∙◌}
use Rattle.std.proofs.lemmas.List.{length-map}
use Rattle.tui_cells.proofs.Painting.{Painted-kept}
use Rattle.tui_table.specs.Row.{row_data}
use Rattle.tui_table.specs.Stays.{body_stays}
use Rattle.tui_table.specs.Table.{table_data}
use Rattle.tui_table.proofs.Contents.{body_painted}
use Rattle.tui_table.proofs.table.Table.paint_body.Goals as goal

pub returns-clause-ok : goal.returns-clause-ok
returns-clause-ok c =
    body_painted (table_data c.args.self.now) c.args.body c.args.grid.gutter c.args.grid.columns.now c.args.selected c.args.column c.args.window.first c.args.window.end _ _ _
    c.args.buf.now _ _ c.requires.order c.requires.within
    (rw c.as_slice.ensures at c.one_more-end.ensures ∙ ap (λ n. min (c.args.window.end + 1) n) (sym (length-map c.args.self.now.rows row_data)))
    c.selected_row-row.ensures c.selected_column-column.ensures c.in_ok-paint_rows.ensures.ok c.paint_highlights.ensures

pub returns-clause-kept : goal.returns-clause-kept
returns-clause-kept c = Painted-kept (body_stays (table_data c.args.self.now) c.args.body c.args.grid.gutter c.args.grid.columns.now c.args.selected c.args.column _ _) (returns-clause-ok c)
