use Rattle.std.proofs.Common.{◌≡◌, ◌<◌, arith, get_or, length, map, refl}
use Rattle.std.proofs.lemmas.List.{length-map}
use Rattle.tui_cells.proofs.Painting.{KeptOutside-then}
use Rattle.tui_table.specs.Row.{row_data}
use Rattle.tui_table.specs.Table.{table_data}
use Rattle.tui_table.proofs.Contents.{row_kept}
use Rattle.tui_table.proofs.RowLists.{row_here, rows_more, rows_none, total_more, total_none}
use Rattle.tui_table.proofs.table.Table.paint_rows.Goals as goal

pub rows-init : goal.rows-init
rows-init c = record {
  painted = rows_none (table_data c.args.self.now) _ _ _ _ _ _;
  kept = record { area = refl; cells = λ x y out. refl };
  sum = total_none (map row_data c.args.self.now.rows) _ _ (omega arith);
  small = omega arith;
  from = omega arith;
}

pub rows-preserved : goal.rows-preserved
rows-preserved c =
    let rows = c.args.self.now.rows in
    let row = c.index-rows-i.result in
    let known = c.rows.invariant in
    let lt : c.rows.i < length c.args.self.now.rows = omega (arith, length-map c.args.self.now.rows row_data, c.requires.within) in
    let at : c.index-rows-i.result ≡ get_or c.args.self.now.rows c.rows.i c.index-rows-i.result = rw c.as_slice-rows.ensures at c.index-rows-i.is in
    let here = row_here row_data rows c.rows.i row lt at in
    let seen : c.rows.i < length (map row_data c.args.self.now.rows) = rw (length-map c.args.self.now.rows row_data) lt in
    record {
      painted = rows_more (table_data c.args.self.now) c.args.body _ c.args.grid.gutter c.args.grid.columns.now c.args.selected c.args.first c.rows.i c.rows.used _ (row_data row)
          c.args.buf.now _ _ known.from seen here known.sum c.area_in-area.ensures c.kind_at.ensures known.painted c.in_ok-paint_row.ensures.ok;
      kept = KeptOutside-then known.kept (row_kept c.args.body _ c.rows.used (row_data row) _ _ c.area_in-area.ensures c.in_ok-paint_row.ensures.kept);
      sum = rw (c.from-used.ensures, c.outer_height.ensures.rows)
          (total_more (map row_data rows) c.args.first c.rows.i c.rows.used (row_data row) known.from seen here known.sum);
      small = omega (arith, c.from-used.ensures, c.outer_height.ensures.small, known.small);
      from = omega (arith, known.from);
    }
