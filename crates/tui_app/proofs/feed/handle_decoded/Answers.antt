use Rattle.tui_app.proofs.Taking.{both_handled}
use Rattle.tui_keys.specs.Events.{some_of}
use Rattle.tui_app.proofs.feed.handle_decoded.Goals as goal

pub returns : goal.returns
returns g c =
    both_handled g.A.App.behaviour c.args.app.now c.handle.new.app c.handle-2.new.app c.args.before c.in_ok-next.next c.handle-2.result
    (some_of c.args.step.first) (some_of c.args.step.second) c.in_ok-next.ensures c.handle-2.ensures
