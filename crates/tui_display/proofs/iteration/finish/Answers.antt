use Rattle.tui_display.proofs.Stopping.{finished_all, finished_early}
use Rattle.tui_display.proofs.iteration.finish.Goals as goal

pub returns-in-None : goal.returns-in-None
returns-in-None g c =
    finished_all (g.P.Painter.calls_for c.args.painter.now) c.args.setup.output c.args.display.now.line.items c.args.display.now.shown c.show_line.new.display.shown
    (g.K.Sink.observed c.args.sink.now) (g.K.Sink.observed c.show_line.new.sink) c.in-None.ensures.shown

pub returns-in-Some : goal.returns-in-Some
returns-in-Some g c =
    finished_early (g.P.Painter.calls_for c.args.painter.now) c.args.setup.output c.args.display.now.line.items c.args.display.now.shown c.show_line.new.display.shown
    (g.K.Sink.observed c.args.sink.now) (g.K.Sink.observed c.show_line.new.sink) c.in-Some.end c.in-Some.ensures.shown
