use Rattle.std.proofs.Common.{ap}
use Rattle.tui_files_lib.proofs.Shown.{plain_kept}
use Rattle.tui_files_lib.proofs.drawing.draw_line.Goals as goal
use Rattle.tui_para.specs.Paragraph.{ParagraphData, paragraph_data}

pub returns : goal.returns
returns c = plain_kept (paragraph_data c.new.result) c.args.area c.args.buf.now c.render.new.buf (ap (λ (q : ParagraphData). q.block) c.new.ensures)
    c.in_ok-render.ensures.ok
