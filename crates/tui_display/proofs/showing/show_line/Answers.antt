use Rattle.std.proofs.Common.{refl, sym, ap, ◌∙◌, length}
use Rattle.std.specs.Prelude.{vec_len}
use Rattle.tui_display.proofs.Taking.{line_shown, some_of}
use Rattle.tui_display.proofs.showing.show_line.Goals as goal

pub returns-in-Ok-clause-shown : goal.returns-in-Ok-clause-shown
returns-in-Ok-clause-shown g c =
    let sent = c.show_next.ensures.sent in
    let some = some_of (vec_len c.args.display.now.line) (length c.args.display.now.line.items) (sym c.is_empty.ensures ∙ c.if-is_empty.false)
    (sym (ap length c.as_slice.ensures.value) ∙ c.as_slice.ensures.len) in
    line_shown (g.P.Painter.calls_for c.args.painter.now) c.args.setup.output c.args.display.now.line.items c.as_slice.result.now
    c.args.display.now.shown c.show_next.new.display.shown c.paint-painted.new.next
    (g.K.Sink.observed c.args.sink.now) (g.K.Sink.observed c.show_next.new.sink) c.show_next.result sent.0 some
    c.as_slice.ensures.value c.show_next.ensures.shown c.in-Ok.ensures sent.1 sent.2

pub returns-in-Err-clause-shown : goal.returns-in-Err-clause-shown
returns-in-Err-clause-shown g c = (
  refl,
  some_of (vec_len c.args.display.now.line) (length c.args.display.now.line.items) (sym c.is_empty.ensures ∙ c.if-is_empty.false)
      (sym (ap length c.as_slice.ensures.value) ∙ c.as_slice.ensures.len),
)
