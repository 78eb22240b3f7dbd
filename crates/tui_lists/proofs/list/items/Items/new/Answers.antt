use Rattle.std.proofs.Common.{◌≡◌, ℕ, List, [], ◌∷◌, ◌++◌, get_or, ◌∙◌, ap, arith}
use Rattle.tui_lists.specs.ListItem.{list_item_data}
use Rattle.tui_lists.proofs.ListItems.{heights_more}
use Rattle.tui_lists.proofs.list.items.Items.new.Goals as goal

pub loop-item-preserved : goal.loop-item-preserved
loop-item-preserved c =
    let items = c.args.items.items in
    let at : c.item-item.result ≡ get_or items c.loop-item.item-index c.item-item.result = rw c.deref-item-items.ensures.value at c.item-item.is in
    c.in_ok-push.ensures.ok ∙ (ap (λ (hs : List ℕ). hs ++ c.height.result ∷ []) c.loop-item.invariant
    ∙ heights_more list_item_data items c.loop-item.item-index c.item-item.result c.height.result (omega arith) at c.height.ensures)
