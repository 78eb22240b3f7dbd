use Rattle.tui_pages_run.proofs.PageRows.{head_shown}
use Rattle.tui_pages_run.proofs.printing.with_head.Goals as goal

pub returns : goal.returns
returns c =
    head_shown c.args.report.now c.args.area _ _ c.requires c.in_ok-page.ensures c.in_ok-draw_head.ensures.ok c.draw_head.ensures.kept
