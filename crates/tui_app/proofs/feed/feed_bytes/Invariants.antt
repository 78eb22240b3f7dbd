use Rattle.std.proofs.Common.{take}
use Rattle.tui_app.proofs.Taking.{HasHandled}
use Rattle.tui_app.proofs.feed.feed_bytes.Given as goal

abbrev pub invariant-bytes : goal.invariant-bytes
invariant-bytes g l = HasHandled g.A.App.behaviour l.fn.app l.fn.keys (take l.i l.bytes) l.app l.handled l.pending
