use Rattle.std.proofs.Common.{length, take, ◌-◌, ◌≡◌, ◌≤◌}
use Rattle.std.specs.Io.KnownBytes.{Appends}
use Rattle.tui_io.proofs.put.write_all.Given as goal

abbrev pub invariant-loop-at : goal.invariant-loop-at
invariant-loop-at g l =
    let k = g.K.Sink in
    record {
      within : l.at ≤ length l.bytes;
      io_errors : (k.observed l.sink).io_errors ≡ (k.observed l.fn.sink).io_errors;
      sent : Appends (k.observed l.fn.sink).bytes (k.observed l.sink).bytes (take l.at l.bytes);
    }

abbrev pub decreases-loop-at : goal.decreases-loop-at
decreases-loop-at g l = length l.bytes - l.at
