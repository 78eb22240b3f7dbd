use Rattle.std.proofs.Common.{length, ◌-◌, ◌≡◌, ◌≤◌}
use Rattle.std.specs.Io.KnownBytes.{Consumes}
use Rattle.tui_io.specs.Limits.{limit}
use Rattle.tui_io.proofs.read.read_all.Given as goal

abbrev pub invariant-reads : goal.invariant-reads
invariant-reads g l =
    let s = g.S.Source in
    record {
      within : length l.bytes.items ≤ limit;
      io_errors : (s.observed l.source).io_errors ≡ (s.observed l.fn.source).io_errors;
      taken : Consumes (s.observed l.fn.source).bytes (s.observed l.source).bytes l.bytes.items;
    }

abbrev pub decreases-reads : goal.decreases-reads
decreases-reads g l = limit - length l.bytes.items
