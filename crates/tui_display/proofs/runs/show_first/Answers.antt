use Rattle.tui_display.proofs.Stopping.{opened}
use Rattle.tui_display.proofs.runs.show_first.Goals as goal

pub returns : goal.returns
returns g c =
    let first = c.in_ok-enter.ensures.ok in
    let sent = c.send_full.ensures in
    opened c.args.output c.args.first.now (g.K.Sink.observed c.args.sink.now) (g.K.Sink.observed c.enter.new.sink) (g.K.Sink.observed c.send_full.new.sink)
    c.send_full.result sent.0 first.0 first.1 sent.1 sent.2
