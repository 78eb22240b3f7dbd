use Rattle.std.proofs.Common.{◌≡◌, map, take}
use Rattle.tui_lists.specs.ListItem.{list_item_data}
use Rattle.tui_pager_lib.specs.Entry.{entry_data}
use Rattle.tui_pager_lib.specs.Screen.{title_item}
use Rattle.tui_pager_lib.proofs.title_list.title_items.Given as goal

abbrev pub invariant-titles : goal.invariant-titles
invariant-titles l = map list_item_data l.items.items ≡ map title_item (map entry_data (take l.i l.entries))
