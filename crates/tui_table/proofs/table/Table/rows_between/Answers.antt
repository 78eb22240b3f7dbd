use Rattle.std.proofs.Common.{◌≡◌, ◌<◌, arith, get_or, length, map}
use Rattle.std.proofs.lemmas.List.{length-map}
use Rattle.tui_table.specs.Row.{row_data}
use Rattle.tui_table.proofs.RowLists.{row_here, total_more, total_none}
use Rattle.tui_table.proofs.table.Table.rows_between.Goals as goal

pub returns-then-s-first-clause-total : goal.returns-then-s-first-clause-total
returns-then-s-first-clause-total c = total_none (map row_data c.args.self.now.rows) _ _ c.if-s-first.true

pub rows-init : goal.rows-init
rows-init c = record { sum = total_none (map row_data c.args.self.now.rows) _ _ (omega arith); small = omega arith; from = omega arith }

pub rows-preserved : goal.rows-preserved
rows-preserved c =
    let rows = c.args.self.now.rows in
    let known = c.rows.invariant in
    let lt : c.rows.i < length c.args.self.now.rows = omega (arith, length-map c.args.self.now.rows row_data, c.requires.within) in
    let at : c.index-rows-i.result ≡ get_or c.args.self.now.rows c.rows.i c.index-rows-i.result = rw c.as_slice-rows.ensures at c.index-rows-i.is in
    let seen : c.rows.i < length (map row_data c.args.self.now.rows) = rw (length-map c.args.self.now.rows row_data) lt in
    record {
      sum = rw (c.from-sum.ensures, c.outer_height.ensures.rows)
          (total_more (map row_data rows) c.args.first c.rows.i c.rows.sum (row_data c.index-rows-i.result) known.from seen
          (row_here row_data rows c.rows.i c.index-rows-i.result lt at) known.sum);
      small = omega (arith, c.from-sum.ensures, c.outer_height.ensures.small, known.small);
      from = omega (arith, known.from);
    }
