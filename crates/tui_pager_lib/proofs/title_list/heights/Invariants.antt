use Rattle.std.proofs.Common.{◌≡◌, map, take}
use Rattle.tui_lists.specs.ListItem.{heights_of, list_item_data}
use Rattle.tui_pager_lib.proofs.title_list.heights.Given as goal

abbrev pub invariant-heights : goal.invariant-heights
invariant-heights l = l.heights ≡ heights_of (map list_item_data (take l.i l.items))
