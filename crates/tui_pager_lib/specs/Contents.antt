-- What a pager stores of its entries.
use Rattle.std.specs.Prelude.{◌≡◌, ℕ, List, map}
use Rattle.tui_lists.specs.List.{ListData}
use Rattle.tui_lists.specs.ListItem.{heights_of}
use Rattle.tui_pager_lib.specs.Entry.{EntryData}
use Rattle.tui_pager_lib.specs.Screen.{title_item, titles_list}

-- the heights of the titles, and the list of titles
pub record IsContents (entries : List EntryData) (heights : List ℕ) (titles : ListData) : Type 0 where
  pub heights_are : heights ≡ heights_of (map title_item entries)
  pub list_is : titles ≡ titles_list entries
