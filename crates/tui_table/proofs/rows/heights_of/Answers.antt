use Rattle.std.proofs.Common.{◌≡◌, arith, get_or, ◌∙◌}
use Rattle.tui_table.specs.Row.{row_data}
use Rattle.tui_table.proofs.RowLists.{heights_more}
use Rattle.tui_table.proofs.rows.heights_of.Goals as goal

pub loop-row-preserved : goal.loop-row-preserved
loop-row-preserved c =
    let rows = c.args.rows.now.items in
    let at : c.row-item.result ≡ get_or rows c.loop-row.row-index c.row-item.result = rw c.deref-row-items.ensures.value at c.row-item.is in
    c.in_ok-push.ensures.ok
    ∙ heights_more row_data rows c.loop-row.row-index c.row-item.result _ c.loop-row.heights (omega arith) at (c.from.ensures ∙ c.outer_height.ensures.rows) c.loop-row.invariant
