use Rattle.std.proofs.lemmas.Bool.{ne_eqb}
use Rattle.tui_display.proofs.Taking.{line_added}
use Rattle.tui_display.proofs.feed.take_byte.Goals as goal

pub returns-else-byte-eq-NEWLINE : goal.returns-else-byte-eq-NEWLINE
returns-else-byte-eq-NEWLINE g c =
    line_added (g.P.Painter.calls_for c.args.painter.now) c.args.setup.output c.args.byte c.args.display.now.line.items c.add_byte.new.line.items c.args.display.now.shown
    (g.K.Sink.observed c.args.sink.now) c.add_byte.result (ne_eqb c.args.byte 10 c.if-byte-eq-NEWLINE.false) c.add_byte.ensures
