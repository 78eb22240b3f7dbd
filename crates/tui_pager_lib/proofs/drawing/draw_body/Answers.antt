use Rattle.tui_pager_lib.proofs.BodyLineStarts.{rest_drawn, rest_is}
use Rattle.tui_pager_lib.proofs.drawing.draw_body.Goals as goal

pub returns-then-at-line_starts-clause-drawn : goal.returns-then-at-line_starts-clause-drawn
returns-then-at-line_starts-clause-drawn c =
    rest_drawn c.draw_lines.result c.args.size.width c.args.size.height c.args.line c.args.body.text.now c.range_from.result.now c.args.buf.now c.draw_lines.new.buf
    (rest_is c.args.size.width _ c.args.line c.args.body.text.now c.range_from.result.now c.args.body.line_starts.now c.requires.line_starts c.if-at-line_starts.true c.from-at.ensures
    c.range_from.ensures.value) c.draw_lines.ensures.drawn
