use Rattle.tui_para.proofs.ByteMarks.{byte_mark}
use Rattle.tui_para.proofs.wrapping.mark.Mark.of_printable.Goals as goal

pub returns : goal.returns
returns c =
    let (text, low, high) = c.in_ok-byte.ensures.some in
    byte_mark _ c.args.grapheme.now.style c.in_ok-byte.byte text low high
