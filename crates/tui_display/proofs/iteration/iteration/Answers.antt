use Rattle.std.proofs.Common.{ℕ, [], take, subst, rules, arith}
use Rattle.tui_app.specs.Trace.{IsRead, Traced, read_entry}
use Rattle.tui_display.proofs.Stopping.{finished, after_iteration}
use Rattle.tui_display.proofs.iteration.iteration.Goals as goal

pub returns-then-count-eq0 : goal.returns-then-count-eq0
returns-then-count-eq0 g c =
    let before = g.T.Sink.observed c.args.terminal.now in
    let read = g.T.Sink.observed c.wait.new.self in
    let traced : Traced before read (read_entry []) = subst (λ (n : ℕ). Traced before read (read_entry (take n c.wait.new.into))) c.if-count-eq0.true c.in-Ok.ensures.trace in
    finished (g.P.Painter.calls_for c.args.painter.now) c.args.setup.output c.args.display.now.line.items c.finish.new.display.line.items
    c.args.display.now.shown c.finish.new.display.shown before read (g.T.Sink.observed c.finish.new.sink) c.finish.result traced c.finish.ensures

pub returns : goal.returns
returns g c =
    let bytes = take c.in-Ok.count c.wait.new.into in
    let read : IsRead bytes = search (rules, arith) in
    after_iteration (g.P.Painter.calls_for c.args.painter.now) c.args.setup.output bytes c.args.display.now.line.items c.take_bytes.new.display.line.items
    c.args.display.now.shown c.take_bytes.new.display.shown
    (g.T.Sink.observed c.args.terminal.now) (g.T.Sink.observed c.wait.new.self) (g.T.Sink.observed c.take_bytes.new.sink) c.take_bytes.result
    c.in-Ok.ensures.trace read c.take_bytes.ensures
