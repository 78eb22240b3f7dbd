use Rattle.std.proofs.Common.{arith, rules, take}
use Rattle.tui_app.proofs.Stopping.{after_iteration}
use Rattle.tui_app.specs.Trace.{IsRead}
use Rattle.tui_app.proofs.iteration.iteration.Goals as goal

pub returns-clause-after_iteration : goal.returns-clause-after_iteration
returns-clause-after_iteration g c =
    let read : IsRead (take c.in-Ok.count c.wait.new.into) = record { some = search (rules, arith); within = search (rules, arith) } in
    after_iteration g.A.App.behaviour c.args.setup.output c.args.app.now c.feed.new.app c.follow.new.app c.args.keys.now c.args.buffers.now c.follow.new.buffers _
    c.in-Ok-feed.reading
    (g.T.Sink.observed c.args.terminal.now) (g.T.Sink.observed c.wait.new.self) (g.T.Sink.observed c.follow.new.sink) c.follow.result read
    c.in-Ok.ensures.trace c.in-Ok-feed.ensures c.follow.ensures.follows
