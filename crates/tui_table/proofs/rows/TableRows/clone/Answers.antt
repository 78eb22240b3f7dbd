use Rattle.std.proofs.Common.{◌≡◌, [], ◌∷◌, ◌++◌, ◌<◌, ap, arith, get_or, length, rules, take}
use Rattle.std.proofs.lemmas.List.{take_more}
use Rattle.tui_text.proofs.Elements.{pointwise_push, seen_more}
use Rattle.tui_table.specs.Row.{row_data}
use Rattle.tui_table.specs.contracts.row.RowPartialEq.TheImpl.{eq-value}
use Rattle.tui_table.proofs.rows.TableRows.clone.Goals as goal

pub loop-row-preserved : goal.loop-row-preserved
loop-row-preserved c =
    let rows = c.args.self.now in
    let i = c.loop-row.row-index in
    let lt : i < length rows = omega (arith, ap length c.self.view_is) in
    let known = c.loop-row.invariant in
    let copy = c.in_ok-clone.ensures in
    let at : c.row-item.result ≡ get_or rows i c.row-item.result = rw (c.deref-row-items.ensures.value, c.self.view_is) at c.row-item.is in
    let pushed : c.push.new.self.items ≡ c.loop-row.rows.items ++ c.in_ok-clone.field-0 ∷ [] = search rules in
    record {
      same = rw pushed (seen_more row_data rows c.loop-row.rows.items i c.row-item.result c.in_ok-clone.field-0 _ lt at copy.is known.same);
      equal = rw (pushed, take_more rows i c.row-item.result lt, ← at)
          (pointwise_push eq-value.it c.loop-row.rows.items (take i rows) c.in_ok-clone.field-0 c.row-item.result known.equal copy.equal);
    }
