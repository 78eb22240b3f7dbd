use Rattle.tui_pages_run.proofs.PageRows.{head_again, page_drawn}
use Rattle.tui_pages_run.proofs.printing.draw_page.Goals as goal

pub returns-clause-rows : goal.returns-clause-rows
returns-clause-rows c =
    page_drawn c.args.report.now c.args.at c.args.body _ _ _ c.requires.body c.requires.head c.reset.ensures c.in_ok-draw_body.ensures.ok
    c.height-height.ensures.shape

pub returns-clause-head : goal.returns-clause-head
returns-clause-head c =
    head_again c.args.report.now c.args.at c.args.body _ _ _ c.requires.body c.requires.head c.reset.ensures c.draw_body.ensures.kept
