-- The items that a list owns.
use Rattle.std.specs.Prelude.{List, map}
use Rattle.tui_lists.specs.ListItem.{ListItemData, list_item_data}
use Rattle.tui_lists.specs.declared.list.items.Items.{Items}

-- the items of the code as plain data
abbrev pub items_data : Items → List ListItemData
items_data i = map list_item_data i.items.items
