use Rattle.std.proofs.Common.{◌≡◌, [], ◌∷◌, ◌++◌, arith, get_or, rules, take}
use Rattle.std.proofs.lemmas.Bool.{and_parts}
use Rattle.std.proofs.lemmas.List.{take_all, take_more}
use Rattle.tui_text.proofs.Elements.{pointwise_push, seen_more}
use Rattle.tui_table.specs.Cell.{cell_data}
use Rattle.tui_table.specs.contracts.cell.CellPartialEq.TheImpl.{eq-value}
use Rattle.tui_table.specs.contracts.row.RowEq.TheImpl.Laws.{laws-law}
use Rattle.tui_table.proofs.row.Row.clone.Goals as goal

pub loop-cell-preserved : goal.loop-cell-preserved
loop-cell-preserved c =
    let cells = c.args.self.now.cells.items in
    let i = c.loop-cell.cell-index in
    let known = c.loop-cell.invariant in
    let copy = c.in_ok-clone.ensures in
    let at : c.cell-item.result ≡ get_or cells i c.cell-item.result = rw c.deref-cell-items.ensures.value at c.cell-item.is in
    let pushed : c.push.new.self.items ≡ c.loop-cell.cells.items ++ c.in_ok-clone.field-0 ∷ [] = search rules in
    record {
      same = rw pushed (seen_more cell_data cells c.loop-cell.cells.items i c.cell-item.result c.in_ok-clone.field-0 _ (omega arith) at copy.is known.same);
      equal = rw (pushed, take_more cells i c.cell-item.result (omega arith), ← at)
          (pointwise_push eq-value.it c.loop-cell.cells.items (take i cells) c.in_ok-clone.field-0 c.cell-item.result known.equal copy.equal);
    }

pub returns-clause-equal : goal.returns-clause-equal
returns-clause-equal c =
    let all = take_all c.loop-cell.cell-index c.args.self.now.cells.items (omega arith) in
    rw (rw all at c.loop-cell.invariant.equal) (and_parts _ _ (laws-law.refl c.args.self.now)).1
