use Rattle.tui_display.proofs.Taking.{line_ended}
use Rattle.tui_display.proofs.feed.end_line.Goals as goal

pub returns : goal.returns
returns g c =
    rw c.clear.ensures.items (line_ended (g.P.Painter.calls_for c.args.painter.now) c.args.setup.output c.args.display.now.line.items c.args.display.now.shown
    c.show_line-end.new.display.shown (g.K.Sink.observed c.args.sink.now) (g.K.Sink.observed c.show_line-end.new.sink) c.show_line-end.result c.show_line-end.ensures.shown)
