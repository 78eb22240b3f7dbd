use Rattle.tui_line_places.proofs.FromLine.{from_next}
use Rattle.tui_line_places.proofs.places.rest_from.Goals as goal

pub loop-line-preserved : goal.loop-line-preserved
loop-line-preserved c =
    let next = c.in_ok-rest.ensures in
    (next.0, from_next c.args.lines.width c.args.lines.trim c.args.text.now c.loop-line._line c.loop-line.rest.now c.loop-line.invariant.1 1 c.in_ok-rest.rest.now next.1)
