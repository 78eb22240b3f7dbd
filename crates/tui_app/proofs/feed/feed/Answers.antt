use Rattle.tui_app.proofs.Taking.{tick_then}
use Rattle.tui_app.proofs.feed.feed.Goals as goal

pub returns : goal.returns
returns g c =
    tick_then g.A.App.behaviour c.args.app.now c.feed_all_but_ticks.new.app c.feed_tick.new.app c.args.keys c.args.bytes.now c.in_ok-part.part c.feed_tick.result
    c.in_ok-part.ensures c.feed_tick.ensures
