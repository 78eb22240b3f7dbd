use Rattle.tui_cells.proofs.Painting.{KeptOutside-then}
use Rattle.tui_text.specs.Span.{span_data}
use Rattle.tui_bars.proofs.GaugeStrokes.{dressed_then, labelled_painted}
use Rattle.tui_bars.specs.Gauge.{gauge_data}
use Rattle.tui_bars.proofs.gauge.Gauge.paint_labelled.Goals as goal

pub returns-clause-ok : goal.returns-clause-ok
returns-clause-ok c =
    labelled_painted _ (gauge_data c.args.self.now) (span_data c.args.label.now) _ _ _ _ _ _ _ _ _ _ _ _ _ _
    c.fill-fill.ensures c.label_width-width.ensures.is c.from.ensures c.label_area-under.ensures c.label_place-place.ensures c.filled_area.ensures
    c.filled_style.ensures c.swapped_style.ensures c.set_style.ensures c.in_ok-fill_clipped.ensures.ok c.in_ok-fill_clipped-2.ensures.ok
    c.in_ok-paint_tip.ensures.ok c.in_ok-set_span_in.ensures.ok

pub returns-in_err-set_span_in-clause-kept : goal.returns-in_err-set_span_in-clause-kept
returns-in_err-set_span_in-clause-kept c =
    dressed_then c.args.area c.args.self.now.gauge_style _ _ _ c.set_style.ensures
    (KeptOutside-then c.in_ok-fill_clipped.ensures.kept (KeptOutside-then c.in_ok-fill_clipped-2.ensures.kept
    (KeptOutside-then c.in_ok-paint_tip.ensures.kept c.in_err-set_span_in.ensures.kept)))

pub returns-clause-kept : goal.returns-clause-kept
returns-clause-kept c =
    dressed_then c.args.area c.args.self.now.gauge_style _ _ _ c.set_style.ensures
    (KeptOutside-then c.in_ok-fill_clipped.ensures.kept (KeptOutside-then c.in_ok-fill_clipped-2.ensures.kept
    (KeptOutside-then c.in_ok-paint_tip.ensures.kept c.in_ok-set_span_in.ensures.kept)))
