use Rattle.std.proofs.Common.{ap, ◌∙◌}
use Rattle.tui_files_lib.proofs.Shown.{block_kept}
use Rattle.tui_files_lib.proofs.drawing.draw_text.Goals as goal
use Rattle.tui_frames.specs.Block.{BlockData, block_data}
use Rattle.tui_para.specs.Paragraph.{ParagraphData, paragraph_data}

pub returns : goal.returns
returns c =
    let blocked = ap (λ (q : ParagraphData). q.block) c.wrap.ensures ∙ ap (λ (q : ParagraphData). q.block) c.block.ensures in
    block_kept (paragraph_data c.wrap.result) (block_data c.in_ok-block.block) c.args.area c.args.buf.now c.render.new.buf blocked
    (ap (λ (b : BlockData). b.shadow) c.in_ok-block.ensures) c.in_ok-render.ensures.ok
