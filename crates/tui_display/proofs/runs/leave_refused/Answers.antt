use Rattle.tui_display.proofs.Writing.{writes_then}
use Rattle.tui_display.proofs.runs.leave_refused.Goals as goal

pub returns : goal.returns
returns g c =
    let first = c.in_ok-leave.ensures.ok in
    writes_then (g.K.Sink.observed c.args.sink.now) (g.K.Sink.observed c.leave.new.sink) (g.K.Sink.observed c.write_all.new.sink) c.write_all.result _ _ first.0 first.1 c.write_all.ensures
