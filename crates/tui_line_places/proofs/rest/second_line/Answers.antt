use Rattle.tui_line_places.proofs.AfterLine.{clause_at_line_end, within}
use Rattle.tui_line_places.proofs.rest.second_line.Goals as goal

pub returns-in-Grapheme : goal.returns-in-Grapheme
returns-in-Grapheme c =
    let rest = c.line_rest-rest.ensures in
    let next = c.in-Grapheme.ensures in
    (rest.goes_on.utf8, within c.args.lines.width c.args.lines.trim c.args.text.now c.utf8.text c.line_rest-rest.result.now rest.first rest.goes_on next.cluster _ next.shown)

pub returns-in-EndOfLine : goal.returns-in-EndOfLine
returns-in-EndOfLine c =
    let rest = c.line_rest-rest.ensures in
    clause_at_line_end c.args.lines.width c.args.lines.trim c.args.text.now c.utf8.text c.line_rest-rest.result.now rest.first rest.goes_on c.in-EndOfLine.after.now c.in-EndOfLine.ensures c.if_some.result c.if_some.ensures
