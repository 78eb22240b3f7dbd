use Rattle.std.proofs.Common.{arith, rules}
use Rattle.std.proofs.lemmas.List.{length-drop}
use Rattle.tui_io.proofs.Outside.{part_from, take_more, Appends-then}
use Rattle.tui_io.proofs.put.write_all.Goals as goal

pub loop-at-preserved : goal.loop-at-preserved
loop-at-preserved g c =
    let k = g.K.Sink in
    record {
      within = omega (arith, length-drop c.loop-at.at c.args.bytes.now, c.in-Ok.ensures.bound);
      io_errors = search rules;
      sent = rw (← take_more c.loop-at.at c.in-Ok.count c.args.bytes.now)
          (Appends-then (k.observed c.args.sink.now).bytes (k.observed c.loop-at.sink).bytes (k.observed c.put.new.self).bytes _ _
          c.loop-at.invariant.sent (rw part_from at c.in-Ok.ensures.bytes));
    }
