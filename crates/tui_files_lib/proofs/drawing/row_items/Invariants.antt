use Rattle.std.proofs.Common.{◌≡◌, map, take}
use Rattle.tui_files_lib.specs.Drawing.{row_item}
use Rattle.tui_files_lib.specs.Rows.{row_label}
use Rattle.tui_files_lib.proofs.drawing.row_items.Given as goal
use Rattle.tui_lists.specs.ListItem.{list_item_data}

abbrev pub invariant-rows : goal.invariant-rows
invariant-rows l = map list_item_data l.items.items ≡ map row_item (map row_label (take l.i l.rows))
