use Rattle.std.proofs.Common.{◌<◌, ◌∙◌, arith, length}
use Rattle.std.proofs.lemmas.List.{length-map}
use Rattle.tui_cells.proofs.Painting.{KeptOutside-then, KeptOutside-weaker}
use Rattle.tui_cells.proofs.Regions.{rows_out}
use Rattle.tui_text.proofs.Elements.{seen_at}
use Rattle.tui_lists.specs.List.{list_data}
use Rattle.tui_lists.specs.ListDrawing.{IsAllocationFreeItem}
use Rattle.tui_lists.specs.ListItem.{list_item_data}
use Rattle.tui_lists.proofs.ListItems.{items_done, items_more}
use Rattle.tui_lists.proofs.Selected.{compared}
use Rattle.tui_lists.proofs.list.List.paint_items.Goals as goal

pub items-preserved : goal.items-preserved
items-preserved c =
    let items = c.args.self.now.items.items.items in
    record {
      rest = λ final q. c.items.invariant.rest final
          (items_more list_item_data items (list_data c.args.self.now) c.args.inner c.args.selected c.items.i c.items.used c.args.end c.index-item.result.now
          _ _ _ _ _ _ _ _ final (omega arith)
          (omega (arith, length-map items list_item_data, c.requires.within)) (search) c.gutter-gutter.ensures
          c.height.ensures c.cut_height-height.ensures c.row_of.ensures c.rows_from-rows.ensures (c.eq.ensures ∙ compared c.args.selected c.items.i) c.in_ok-paint_item.ensures.ok q);
      kept = KeptOutside-then c.items.invariant.kept
          (KeptOutside-weaker (λ x y out. rows_out c.args.inner c.row_of.result _ x y out) (rw c.rows_from-rows.ensures at c.in_ok-paint_item.ensures.kept));
      room = omega (arith, c.cut_height-height.ensures, c.items.invariant.room);
    }

pub returns-in_err-paint_item-clause-allocation_free : goal.returns-in_err-paint_item-clause-allocation_free
returns-in_err-paint_item-clause-allocation_free c allocation_free =
    let items = c.args.self.now.items.items.items in
    let inside : c.items.i < length items = omega (arith, length-map items list_item_data, c.requires.within) in
    let broken =
    c.in_err-paint_item.ensures.allocation_free allocation_free.symbol (seen_at list_item_data IsAllocationFreeItem items c.items.i c.index-item.result.now c.index-item.result.now inside (search) allocation_free.items) in
    cc

pub returns-clause-ok : goal.returns-clause-ok
returns-clause-ok c = c.items.invariant.rest _ (items_done _ _ _ _ _ _ _ _ (omega arith))
