use Rattle.tui_pages_lib.specs.Report.{column_data}
use Rattle.tui_pages_lib.specs.Strokes.{paragraph_in, unwrapped}
use Rattle.tui_pages_lib.proofs.Drawn.{beside_done, beside_more, column_kept}
use Rattle.tui_pages_lib.proofs.drawing.draw_names.Goals as goal

pub names-preserved : goal.names-preserved
names-preserved c = record {
  rest = λ final q. c.names.invariant.rest final
      (beside_more (λ buffer area column. paragraph_in buffer area (unwrapped column.name)) column_data c.args.buf.now.area c.args.row _ c.args.places.now
      c.args.columns.now c.names.i _ _ _ c.names.buf _ final c.min-i-end.ensures c.names-test.true c.names.invariant.kept.area
      c.columns_from-area.ensures c.in_ok-draw_text.ensures.ok q);
  kept = column_kept c.args.row _ _ _ _ _ _ c.names.invariant.kept c.columns_from-area.ensures c.in_ok-draw_text.ensures.kept;
}

pub returns-clause-ok : goal.returns-clause-ok
returns-clause-ok c = c.names.invariant.rest _
    (beside_done (λ area column. paragraph_in c.args.buf.now.area area (unwrapped column.name)) column_data c.args.row c.args.places.now c.args.columns.now
    c.names.i _ _ c.min-i-end.ensures c.names-test.false)
