use Rattle.std.proofs.Common.{None, take}
use Rattle.tui_display.specs.Parts.{Feeds}
use Rattle.tui_display.proofs.feed.take_bytes.Given as goal

abbrev pub invariant-bytes : goal.invariant-bytes
invariant-bytes g l =
    Feeds (g.P.Painter.calls_for l.painter) l.setup.output (take l.i l.bytes) l.fn.display.line.items l.fn.display.shown l.display.line.items l.display.shown
    (g.K.Sink.observed l.fn.sink) (g.K.Sink.observed l.sink) None
