use Rattle.std.proofs.Common.{◌≡◌, refl, arith}
use Rattle.tui_display.proofs.Stopping.{has_ended, many_reads, not_opened, read_first, read_more}
use Rattle.tui_display.specs.Run.{nothing}
use Rattle.tui_display.specs.declared.outcome.DisplayEnd.TheVariants.{ManyReads}
use Rattle.tui_display.proofs.runs.show_lines.Goals as goal

pub returns-in_default : goal.returns-in_default
returns-in_default g c = nothing refl

pub returns-in_default-show_first : goal.returns-in_default-show_first
returns-in_default-show_first g c =
    not_opened (g.P.Painter.calls_for c.args.painter.now) c.args.output c.in-Ok.display.shown (g.T.Sink.observed c.args.terminal.now) (g.T.Sink.observed c.show_first.new.sink)
    c.in_default-show_first.field-0 c.in-Ok.ensures.shown c.in_default-show_first.ensures

pub iterations-init : goal.iterations-init
iterations-init g c =
    let first = c.in-Ok-show_first.ensures in
    read_first (g.P.Painter.calls_for c.args.painter.now) c.args.output (g.T.Sink.observed c.args.terminal.now) (g.T.Sink.observed c.show_first.new.sink)
    c.in-Ok.display.line.items c.in-Ok.display.shown first.0 c.in-Ok.ensures.line c.in-Ok.ensures.shown first.1 first.2

pub iterations-preserved : goal.iterations-preserved
iterations-preserved g c =
    read_more (g.P.Painter.calls_for c.args.painter.now) c.args.output (g.T.Sink.observed c.args.terminal.now) (g.T.Sink.observed c.iterations.terminal) (g.T.Sink.observed c.iteration.new.terminal)
    c.iterations._i c.iterations.display.line.items c.iteration.new.display.line.items c.iterations.display.shown c.iteration.new.display.shown c.iterations.invariant c.in_default-iteration.ensures

pub returns-in-Some : goal.returns-in-Some
returns-in-Some g c =
    let has = c.iterations.invariant in
    has_ended (g.P.Painter.calls_for c.args.painter.now) c.args.output (g.T.Sink.observed c.args.terminal.now) (g.T.Sink.observed c.iteration.new.terminal) (g.T.Sink.observed c.close.new.sink)
    c.in-Some.end c.close.result (c.in-Some.ensures (g.T.Sink.observed c.args.terminal.now) has.all has.reached) c.close.ensures

pub returns : goal.returns
returns g c =
    let all : c.iterations._i ≡ 4294967296 = omega (arith, c.iterations-test.false, c.iterations.auto._i-end) in
    has_ended (g.P.Painter.calls_for c.args.painter.now) c.args.output (g.T.Sink.observed c.args.terminal.now) (g.T.Sink.observed c.iterations.terminal) (g.T.Sink.observed c.close-2.new.sink)
    ManyReads c.close-2.result
    (many_reads (g.P.Painter.calls_for c.args.painter.now) c.args.output (g.T.Sink.observed c.args.terminal.now) (g.T.Sink.observed c.iterations.terminal)
    c.iterations._i c.iterations.display.line.items c.iterations.display.shown all c.iterations.invariant) c.close-2.ensures
