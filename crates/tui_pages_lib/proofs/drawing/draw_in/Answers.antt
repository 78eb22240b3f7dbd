use Rattle.tui_para.specs.Paragraph.{paragraph_data}
use Rattle.tui_pages_lib.proofs.Drawn.{kept_in}
use Rattle.tui_pages_lib.proofs.drawing.draw_in.Goals as goal

pub returns-clause-ok : goal.returns-clause-ok
unfolding Rattle.tui_pages_lib.specs.Strokes.paragraph_in
returns-clause-ok c = c.render.ensures.ok

pub returns-clause-kept : goal.returns-clause-kept
returns-clause-kept c =
    kept_in c.render.result (paragraph_data c.args.paragraph.now) c.args.area _ _ c.requires c.render.ensures.ok c.render.ensures.err
