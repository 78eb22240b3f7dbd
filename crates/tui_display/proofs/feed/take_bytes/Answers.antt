use Rattle.tui_display.proofs.Taking.{fed_all, fed_ended, fed_more, fed_none}
use Rattle.tui_display.proofs.feed.take_bytes.Goals as goal

pub bytes-init : goal.bytes-init
bytes-init g c =
    fed_none (g.P.Painter.calls_for c.args.painter.now) c.args.setup.output c.args.display.now.line.items c.args.display.now.shown (g.K.Sink.observed c.args.sink.now)

pub bytes-preserved : goal.bytes-preserved
bytes-preserved g c =
    fed_more (g.P.Painter.calls_for c.args.painter.now) c.args.setup.output c.args.bytes.now c.bytes.i
    c.args.display.now.line.items c.bytes.display.line.items c.take_byte.new.display.line.items
    c.args.display.now.shown c.bytes.display.shown c.take_byte.new.display.shown
    (g.K.Sink.observed c.args.sink.now) (g.K.Sink.observed c.bytes.sink) (g.K.Sink.observed c.take_byte.new.sink) c.bytes-test.true c.bytes.invariant c.in_default.ensures

pub returns-in-Some : goal.returns-in-Some
returns-in-Some g c =
    fed_ended (g.P.Painter.calls_for c.args.painter.now) c.args.setup.output c.args.bytes.now c.bytes.i
    c.args.display.now.line.items c.bytes.display.line.items c.take_byte.new.display.line.items
    c.args.display.now.shown c.bytes.display.shown c.take_byte.new.display.shown
    (g.K.Sink.observed c.args.sink.now) (g.K.Sink.observed c.bytes.sink) (g.K.Sink.observed c.take_byte.new.sink) c.in-Some.end c.bytes-test.true c.bytes.invariant c.in-Some.ensures

pub returns : goal.returns
returns g c =
    fed_all (g.P.Painter.calls_for c.args.painter.now) c.args.setup.output c.args.bytes.now c.bytes.i
    c.args.display.now.line.items c.bytes.display.line.items c.args.display.now.shown c.bytes.display.shown
    (g.K.Sink.observed c.args.sink.now) (g.K.Sink.observed c.bytes.sink) c.bytes-test.false c.bytes.invariant
