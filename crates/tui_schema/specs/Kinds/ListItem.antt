-- Items of a list: an object with `text` and optionally `style`, or else text.
use Rattle.std.specs.Prelude.{Option, None, Some, codes}
use Rattle.serde_json.specs.Data.{Data}
use Rattle.serde_json.specs.Find.{get}
use Rattle.tui_cells.specs.Style.{no_style}
use Rattle.tui_lists.specs.ListItem.{ListItemData}
use Rattle.tui_json.specs.Members.{◌>>=◌}
use Rattle.tui_schema.specs.Kinds.Style.{style_member}
use Rattle.tui_schema.specs.Kinds.Text.{text_of}

abbrev list_item_by : Option Data → Data → Option ListItemData
list_item_by None d = do
  content ← text_of d
  Some (record { content = content; style = no_style })
list_item_by (Some text) d = do
  content ← text_of text
  style ← style_member (codes "style") d
  Some (record { content = content; style = style })

unfoldable pub list_item_of : Data → Option ListItemData
list_item_of d = list_item_by (get (codes "text") d) d
