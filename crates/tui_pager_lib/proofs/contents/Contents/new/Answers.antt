use Rattle.std.proofs.Common.{◌∙◌, ap, map}
use Rattle.tui_lists.specs.ListItem.{heights_of, list_item_data}
use Rattle.tui_pager_lib.specs.Entry.{entry_data}
use Rattle.tui_pager_lib.specs.Screen.{list_over, title_item}
use Rattle.tui_pager_lib.proofs.contents.Contents.new.Goals as goal

pub invariant_of-result : goal.invariant_of-result
invariant_of-result c =
    let items = c.in_ok-items.ensures ∙ ap (λ es. map title_item (map entry_data es)) c.deref.ensures.value in
    record {
      heights_are = c.in_ok-heights.ensures ∙ ap heights_of (ap (map list_item_data) c.deref-2.ensures.value ∙ items);
      list_is = c.in_ok-titles.ensures ∙ ap list_over items;
    }
