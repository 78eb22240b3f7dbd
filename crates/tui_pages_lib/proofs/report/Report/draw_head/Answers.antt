use Rattle.std.proofs.Common.{map, subst, ap, ◌∙◌}
use Rattle.std.specs.Prelude.{OnOk}
use Rattle.tui_cells.specs.Layers.{Painted}
use Rattle.tui_pages_lib.specs.Report.{ReportData, column_data}
use Rattle.tui_pages_lib.specs.Strokes.{head_layers}
use Rattle.tui_pages_lib.proofs.DrawnPage.{head_drawn}
use Rattle.tui_pages_lib.proofs.report.Report.draw_head.Goals as goal

pub returns-clause-ok : goal.returns-clause-ok
returns-clause-ok c =
    subst (λ (r : ReportData). OnOk c.draw_names.result (Painted (head_layers r c.args.buf.now.area) c.args.buf.now c.draw_names.new.buf))
    c.self.view_is
    (head_drawn c.draw_names.result _ _ _ _ _ _ c.args.buf.now _ c.draw_names.new.buf c.new-page.ensures
    (c.deref-2.ensures.value ∙ c.self.invariant.0.placed) (ap (map column_data) c.deref.ensures.value)
    c.rows_from.ensures c.rows_from-names.ensures c.in_ok-draw_text.ensures.ok c.draw_names.ensures.ok)
