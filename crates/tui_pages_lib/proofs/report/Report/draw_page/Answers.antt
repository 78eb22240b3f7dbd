use Rattle.std.proofs.Common.{◌-◌}
use Rattle.tui_cells.proofs.Painting.{KeptOutside-then, KeptOutside-weaker}
use Rattle.tui_cells.proofs.Regions.{rows_out}
use Rattle.tui_pages_lib.specs.Strokes.{page_area}
use Rattle.tui_pages_lib.proofs.DrawnPage.{page_drawn}
use Rattle.tui_pages_lib.proofs.report.Report.draw_page.Goals as goal

pub returns-clause-ok : goal.returns-clause-ok
returns-clause-ok c =
    page_drawn c.draw_body.result c.args.self.now c.args.at c.args.buf.now _ c.draw_body.new.buf c.in_ok-draw_head.ensures.ok c.draw_body.ensures.ok

pub returns-clause-kept : goal.returns-clause-kept
returns-clause-kept c =
    let page = page_area c.args.self.now in
    KeptOutside-then (KeptOutside-weaker (λ x y out. rows_out page 0 2 x y out) c.draw_head.ensures.kept)
    (KeptOutside-weaker (λ x y out. rows_out page 2 (c.args.self.now.height - 2) x y out) c.draw_body.ensures.kept)
