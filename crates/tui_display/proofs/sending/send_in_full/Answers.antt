use Rattle.std.proofs.Common.{rules}
use Rattle.std.proofs.lemmas.Result.{err_from_is_err_and}
use Rattle.tui_cells.specs.Buffer.{IsFilled}
use Rattle.tui_cells.specs.Cell.{blank}
use Rattle.tui_display.proofs.Writing.{broken_in_full, sent_in_full}
use Rattle.tui_display.proofs.sending.send_in_full.Goals as goal

pub returns-in_err-send_full : goal.returns-in_err-send_full
returns-in_err-send_full g c =
    let cleared = c.in_err-send_full.ensures in
    let filled : IsFilled c.args.old.now.area blank c.reset.new.self = search rules in
    let error = err_from_is_err_and c.from_residual.result c.from_residual.ensures.1 in
    rw error.1 (broken_in_full c.args.output c.args.old.now c.reset.new.self c.args.new.now (g.K.Sink.observed c.args.sink.now) (g.K.Sink.observed c.send_full.new.sink) error.0
    c.requires filled c.height-height.ensures.shape cleared.0 cleared.1 cleared.2.failed)

pub returns : goal.returns
returns g c =
    let cleared = c.in_ok-send_full.ensures in
    let whole = c.send_full-2.ensures in
    let filled : IsFilled c.args.old.now.area blank c.reset.new.self = search rules in
    sent_in_full c.args.output c.args.old.now c.reset.new.self c.args.new.now
    (g.K.Sink.observed c.args.sink.now) (g.K.Sink.observed c.send_full.new.sink) (g.K.Sink.observed c.send_full-2.new.sink) c.send_full-2.result
    c.requires filled cleared.0 whole.0 cleared.1 whole.1 cleared.2.ok.0 cleared.2.ok.1 whole.2
