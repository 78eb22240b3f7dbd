use Rattle.std.proofs.Common.{arith}
use Rattle.tui_io.proofs.Printing.{Prints-none, Prints-then}
use Rattle.tui_pages_run.specs.Printed.{first_pages}
use Rattle.tui_pages_run.proofs.PageRows.{body_is}
use Rattle.tui_pages_run.proofs.Pages.{ended_early, ended_whole, one_more}
use Rattle.tui_pages_run.proofs.printing.print_pages.Goals as goal

pub pages-init : goal.pages-init
unfolding first_pages
pages-init g c =
    (c.in_ok-page.ensures, rw c.new-print.ensures (Prints-none _ _))

pub pages-preserved : goal.pages-preserved
pages-preserved g c =
    (c.in-Ok.ensures.head, rw (one_more c.args.report.now c.pages.at) (Prints-then c.pages.invariant.1 c.emit_page.ensures))

pub returns-in-Err : goal.returns-in-Err
returns-in-Err g c =
    let r = c.args.report.now in
    let end = c.ended.ensures in
    ended_early r _ _ _ _ c.pages.at end.0 c.ended.result (omega (arith, c.pages-test.true, c.page_count-at-end.ensures)) c.pages.invariant.1 end.1 end.2

pub returns : goal.returns
returns g c =
    let r = c.args.report.now in
    let end = c.ended-2.ensures in
    ended_whole r _ _ _ _ c.pages.at end.0 _ c.ended-2.result (omega (arith, c.pages-test.false, c.page_count-at-end.ensures)) c.pages.invariant.1 end.1 end.2

pub draw_page-requires-clause-body : goal.draw_page-requires-clause-body
draw_page-requires-clause-body g c = body_is c.args.report.now c.args.area c.rows_from-body.result c.requires c.rows_from-body.ensures
