use Rattle.tui_display.specs.Parts.{HasRead}
use Rattle.tui_display.proofs.runs.show_lines.Given as goal

abbrev pub invariant-iterations : goal.invariant-iterations
invariant-iterations g l =
    HasRead (g.P.Painter.calls_for l.painter) l.fn.output (g.T.Sink.observed l.fn.terminal) (g.T.Sink.observed l.terminal) l._i l.display.line.items l.display.shown
