use Rattle.std.proofs.Common.{◌≡◌, map}
use Rattle.std.specs.List.{range_with_len}
use Rattle.tui_lists.specs.ListItem.{list_item_data}
use Rattle.tui_show_run.specs.Demo.Scene.{demo_item}
use Rattle.tui_show_run.proofs.demo.items.demo_items.Given as goal

abbrev pub invariant-items : goal.invariant-items
invariant-items l = map list_item_data l.items.items ≡ map demo_item (range_with_len 0 l.i)
