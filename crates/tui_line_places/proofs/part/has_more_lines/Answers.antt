use Rattle.tui_line_places.proofs.FirstPart.{has_more}
use Rattle.tui_line_places.proofs.part.has_more_lines.Goals as goal

pub returns-in-Some : goal.returns-in-Some
returns-in-Some c = λ _.
    has_more c.args.lines.width c.args.lines.trim c.args.text.now c.in-Some.field-0.now c.args.count c.in-Some.ensures.0 c.in-Some.ensures.1
