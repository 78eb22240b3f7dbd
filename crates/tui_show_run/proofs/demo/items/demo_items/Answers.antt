use Rattle.tui_lists.specs.ListItem.{list_item_data}
use Rattle.tui_show_run.specs.Demo.Scene.{demo_item}
use Rattle.tui_show_run.proofs.ItemLists.{next_more}
use Rattle.tui_show_run.proofs.demo.items.demo_items.Goals as goal

pub items-preserved : goal.items-preserved
items-preserved c =
    next_more list_item_data demo_item _ _ c.in_ok-demo_item.field-0 c.items.i c.items.invariant c.in_ok-push.ensures.items c.in_ok-demo_item.ensures
