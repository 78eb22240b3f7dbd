use Rattle.tui_lists.proofs.ListItems.{item_painted}
use Rattle.tui_lists.proofs.list.List.paint_item.Goals as goal

pub returns-clause-ok : goal.returns-clause-ok
returns-clause-ok c =
    item_painted c.paint_gutter.result _ _ _ _ _ _ _ _ c.args.buf.now _ _ _ _ c.patch.ensures c.columns_from.ensures c.columns_from-2.ensures
    c.set_style.ensures c.in_ok-paint_rows.ensures.ok c.highlight_if.ensures.ok c.paint_gutter.ensures.ok
