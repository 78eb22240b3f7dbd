use Rattle.std.proofs.Common.{◌≡◌, map, take}
use Rattle.tui_form_lib.proofs.items.field_items.Given as goal
use Rattle.tui_form_lib.specs.Field.{field_data}
use Rattle.tui_form_lib.specs.Lines.{items_from}
use Rattle.tui_lists.specs.ListItem.{list_item_data}

abbrev pub invariant-fields : goal.invariant-fields
invariant-fields l = map list_item_data l.items.items ≡ items_from l.reported l.focus 0 (map field_data (take l.place l.fields))
