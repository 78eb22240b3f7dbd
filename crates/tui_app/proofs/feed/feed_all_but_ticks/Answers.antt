use Rattle.tui_app.proofs.Taking.{part_end}
use Rattle.tui_app.proofs.feed.feed_all_but_ticks.Goals as goal

pub returns-then-bytes-lt-READ_CAPACITY : goal.returns-then-bytes-lt-READ_CAPACITY
returns-then-bytes-lt-READ_CAPACITY g c =
    part_end g.A.App.behaviour c.args.app.now c.feed_bytes.new.app c.pause.new.app c.args.keys c.args.bytes.now c.in_ok-part.part c.pause.result
    c.if-bytes-lt-READ_CAPACITY.true c.in_ok-part.ensures c.pause.ensures
