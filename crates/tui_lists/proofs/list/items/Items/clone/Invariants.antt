use Rattle.std.proofs.Common.{◌≡◌, map, take, true}
use Rattle.std.specs.Cmp.Lexicographic.{pointwise}
use Rattle.tui_lists.specs.ListItem.{list_item_data}
use Rattle.tui_lists.specs.contracts.list.item.ListItemPartialEq.TheImpl.{eq-value}
use Rattle.tui_lists.proofs.list.items.Items.clone.Given as goal

-- the first items are copied
abbrev pub invariant-loop-item : goal.invariant-loop-item
invariant-loop-item l = record {
  same : map list_item_data l.items.items ≡ map list_item_data (take l.item-index l.self.items.items);
  equal : pointwise eq-value.it l.items.items (take l.item-index l.self.items.items) ≡ true;
}
