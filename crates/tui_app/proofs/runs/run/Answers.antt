use Rattle.std.proofs.Common.{◌≡◌, refl, arith}
use Rattle.tui_app.proofs.Stopping.{been_first, been_more, has_ended, many_reads, not_opened}
use Rattle.tui_app.specs.Parts.{state_of}
use Rattle.tui_app.specs.Run.{nothing}
use Rattle.tui_cells.specs.Rect.{area_of}
use Rattle.tui_app.proofs.runs.run.Goals as goal

pub returns-in_default : goal.returns-in_default
returns-in_default g c = nothing refl

pub returns-in_default-show_first : goal.returns-in_default-show_first
returns-in_default-show_first g c =
    not_opened g.A.App.behaviour c.args.output c.args.app.now c.begin.new.app (area_of 0 0 c.args.size.width c.args.size.height) c.in-Ok.buffers
    (g.T.Sink.observed c.args.terminal.now) (g.T.Sink.observed c.show_first.new.sink) c.in_default-show_first.field-0 c.in-Ok.ensures c.in_default-show_first.ensures

pub iterations-init : goal.iterations-init
iterations-init g c = let first = c.in-Ok-show_first.ensures in record {
  areas = c.in-Ok.ensures.areas;
  reached = rw c.new-keys.ensures (been_first g.A.App.behaviour c.args.output c.args.app.now c.begin.new.app (area_of 0 0 c.args.size.width c.args.size.height) c.in-Ok.buffers
      (g.T.Sink.observed c.args.terminal.now) (g.T.Sink.observed c.show_first.new.sink) first.0 c.in-Ok.ensures first.1 first.2);
}

pub iterations-preserved : goal.iterations-preserved
iterations-preserved g c = record {
  areas = c.in_default-iteration.ensures.areas;
  reached = been_more g.A.App.behaviour c.args.output c.args.app.now (area_of 0 0 c.args.size.width c.args.size.height)
      (state_of c.iterations.app c.iterations.keys c.iterations.buffers) (state_of c.iteration.new.app c.iteration.new.keys c.iteration.new.buffers)
      (g.T.Sink.observed c.args.terminal.now) (g.T.Sink.observed c.iterations.terminal) (g.T.Sink.observed c.iteration.new.terminal)
      c.iterations._i c.iterations.invariant.reached c.in_default-iteration.ensures.after_iteration;
}

pub returns-in-Some : goal.returns-in-Some
returns-in-Some g c =
    has_ended g.A.App.behaviour c.args.output c.args.app.now (area_of 0 0 c.args.size.width c.args.size.height)
    (state_of c.iterations.app c.iterations.keys c.iterations.buffers) (state_of c.iteration.new.app c.iteration.new.keys c.iteration.new.buffers)
    (g.T.Sink.observed c.args.terminal.now) (g.T.Sink.observed c.iterations.terminal) (g.T.Sink.observed c.iteration.new.terminal) (g.T.Sink.observed c.close.new.sink)
    c.iterations._i c.in-Some.end c.close.result c.iterations.invariant.reached (omega (arith, c.iterations-test.true, c.iterations.auto._i-end)) c.in-Some.ensures.after_iteration c.close.ensures

pub returns : goal.returns
returns g c =
    let all : c.iterations._i ≡ 4294967296 = omega (arith, c.iterations-test.false, c.iterations.auto._i-end) in
    many_reads g.A.App.behaviour c.args.output c.args.app.now (area_of 0 0 c.args.size.width c.args.size.height)
    (state_of c.iterations.app c.iterations.keys c.iterations.buffers)
    (g.T.Sink.observed c.args.terminal.now) (g.T.Sink.observed c.iterations.terminal) (g.T.Sink.observed c.close-2.new.sink)
    c.iterations._i c.close-2.result all c.iterations.invariant.reached c.close-2.ensures
