use Rattle.std.proofs.Common.{rules}
use Rattle.tui_para.proofs.ByteRuns.{glyph_is, printable_is}
use Rattle.tui_para.proofs.painting.bytes.byte_in.Goals as goal

pub returns-in-Some : goal.returns-in-Some
returns-in-Some c =
    let (text, low, high) = c.in-Some.ensures.some in
    (glyph_is _ _ _ _ text (search rules), printable_is _ low high)
