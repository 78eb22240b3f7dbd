-- An item of a list as plain data.
use Rattle.std.specs.Prelude.{ℕ, List, length, map}
use Rattle.tui_cells.specs.declared.style.Style.{Style}
use Rattle.tui_lists.specs.declared.list.item.ListItem.{ListItem}
use Rattle.tui_text.specs.Text.{TextData, text_data}

-- an item as plain data
pub record ListItemData : Type 0 where
  pub content : TextData
  pub style : Style

-- an item of the code as plain data
abbrev pub list_item_data : ListItem → ListItemData
list_item_data i = record { content = text_data i.content; style = i.style }

-- an item has a row for each line
abbrev pub item_height : ListItemData → ℕ
item_height i = length i.content.lines

-- the heights of all items
abbrev pub heights_of : List ListItemData → List ℕ
heights_of items = map item_height items
