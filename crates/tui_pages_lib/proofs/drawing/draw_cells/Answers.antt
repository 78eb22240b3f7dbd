use Rattle.std.proofs.Common.{map, subst}
use Rattle.tui_cells.specs.Layers.{Painted}
use Rattle.tui_pages_lib.specs.Strokes.{cell_from, cells_layers, paragraph_in}
use Rattle.tui_pages_lib.proofs.Drawn.{beside_done, beside_more, column_kept}
use Rattle.tui_pages_lib.proofs.drawing.draw_cells.Goals as goal

pub cells-preserved : goal.cells-preserved
cells-preserved c = record {
  rest = λ final q. c.cells.invariant.rest final
      (beside_more (λ buffer area cell. paragraph_in buffer area (cell_from c.args.rest.line cell)) (λ cell. cell.now) c.args.buf.now.area c.args.rows _
      c.args.places.now c.as_slice-cells.result.now c.cells.i _ _ _ c.cells.buf _ final c.min-i-end.ensures c.cells-test.true
      c.cells.invariant.kept.area c.columns_from-area.ensures c.in_ok-draw_rest.ensures.ok q);
  kept = column_kept c.args.rows _ _ _ _ _ _ c.cells.invariant.kept c.columns_from-area.ensures c.in_ok-draw_rest.ensures.kept;
}

pub returns-clause-ok : goal.returns-clause-ok
returns-clause-ok c =
    let all = c.cells.invariant.rest _
    (beside_done (λ area cell. paragraph_in c.args.buf.now.area area (cell_from c.args.rest.line cell)) (λ cell. cell.now) c.args.rows c.args.places.now
    c.as_slice-cells.result.now c.cells.i _ _ c.min-i-end.ensures c.cells-test.false) in
    subst (λ cells. Painted (cells_layers c.args.rest.line c.args.buf.now.area c.args.rows c.args.places.now (map (λ cell. cell.now) cells)) c.args.buf.now c.cells.buf)
    c.as_slice-cells.ensures.value all
