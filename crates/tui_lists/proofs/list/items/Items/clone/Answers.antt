use Rattle.std.proofs.Common.{◌≡◌, [], ◌∷◌, ◌++◌, arith, get_or, rules, take}
use Rattle.std.proofs.lemmas.List.{take_more}
use Rattle.tui_text.proofs.Elements.{pointwise_push, seen_more}
use Rattle.tui_lists.specs.ListItem.{list_item_data}
use Rattle.tui_lists.specs.contracts.list.item.ListItemPartialEq.TheImpl.{eq-value}
use Rattle.tui_lists.proofs.list.items.Items.clone.Goals as goal

pub loop-item-preserved : goal.loop-item-preserved
loop-item-preserved c =
    let items = c.args.self.now.items.items in
    let i = c.loop-item.item-index in
    let known = c.loop-item.invariant in
    let copy = c.in_ok-clone.ensures in
    let at : c.item-item.result ≡ get_or items i c.item-item.result = rw c.deref-item-items.ensures.value at c.item-item.is in
    let pushed : c.push.new.self.items ≡ c.loop-item.items.items ++ c.in_ok-clone.field-0 ∷ [] = search rules in
    record {
      same = rw pushed
          (seen_more list_item_data items c.loop-item.items.items i c.item-item.result c.in_ok-clone.field-0 _ (omega arith) at copy.is known.same);
      equal = rw (pushed, take_more items i c.item-item.result (omega arith), ← at)
          (pointwise_push eq-value.it c.loop-item.items.items (take i items) c.in_ok-clone.field-0 c.item-item.result known.equal copy.equal);
    }
