use Rattle.std.proofs.Common.{◌≡◌, map, take}
use Rattle.tui_lists.specs.ListItem.{heights_of, list_item_data}
use Rattle.tui_lists.proofs.list.items.Items.new.Given as goal

-- the heights of the first items
abbrev pub invariant-loop-item : goal.invariant-loop-item
invariant-loop-item l = l.heights ≡ take l.item-index (heights_of (map list_item_data l.fn.items.items))
