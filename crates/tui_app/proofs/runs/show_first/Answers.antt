use Rattle.tui_app.proofs.Stopping.{opened}
use Rattle.tui_app.proofs.runs.show_first.Goals as goal

pub returns : goal.returns
returns g c =
    let first = c.in_ok-enter.ensures.ok in
    opened c.args.output c.args.buffers.now (g.K.Sink.observed c.args.sink.now) (g.K.Sink.observed c.enter.new.sink) (g.K.Sink.observed c.send.new.sink)
    c.send.result first.0 first.1 c.send.ensures
