use Rattle.std.proofs.Common.{◌≡◌, take}
use Rattle.std.proofs.lemmas.List.{take_all}
use Rattle.tui_app.proofs.Taking.{HasHandled, handled_first, handled_more}
use Rattle.tui_app.proofs.feed.feed_bytes.Goals as goal

pub bytes-init : goal.bytes-init
bytes-init g c = handled_first g.A.App.behaviour c.args.app.now c.args.keys

pub bytes-preserved : goal.bytes-preserved
bytes-preserved g c =
    handled_more g.A.App.behaviour c.args.app.now c.bytes.app c.handle_decoded.new.app c.args.keys c.bytes.pending c.args.bytes.now c.bytes.i
    c.step-step.result c.bytes.handled c.in_ok-handled.handled c.bytes-test.true c.step-step.ensures c.bytes.invariant c.in_ok-handled.ensures

pub returns : goal.returns
returns g c =
    let all : take c.bytes.i c.args.bytes.now ≡ c.args.bytes.now = take_all c.bytes.i c.args.bytes.now c.bytes-test.false in
    let reached : HasHandled g.A.App.behaviour c.args.app.now c.args.keys c.args.bytes.now c.bytes.app c.bytes.handled c.bytes.pending = rw all at c.bytes.invariant in
    record { handled = reached.events; keys_are = reached.pending }
