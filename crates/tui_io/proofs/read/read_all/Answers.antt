use Rattle.std.proofs.Common.{arith, ◌++◌, take}
use Rattle.std.proofs.lemmas.List.{length-append, length-take}
use Rattle.tui_io.proofs.Outside.{Consumes-then}
use Rattle.tui_io.proofs.read.read_all.Goals as goal

pub returns-then-count-len-clause-too_long : goal.returns-then-count-len-clause-too_long
returns-then-count-len-clause-too_long g c =
    let s = g.S.Source in
    let part = take c.in-Ok.count c.read.new.into in
    λ _. record {
      bytes = c.reads.bytes.items ++ part;
      taken = Consumes-then (s.observed c.args.source.now).bytes (s.observed c.reads.source).bytes (s.observed c.read.new.self).bytes _ _ c.reads.invariant.taken c.in-Ok.ensures.bytes.0;
      enough = omega (arith, length-append c.reads.bytes.items part, length-take c.in-Ok.count c.read.new.into, c.in-Ok.ensures.bound);
      within = omega (arith, length-append c.reads.bytes.items part, length-take c.in-Ok.count c.read.new.into, c.in-Ok.ensures.bound);
    }

pub returns-in_err-extend_from_slice-clause-no_memory : goal.returns-in_err-extend_from_slice-clause-no_memory
returns-in_err-extend_from_slice-clause-no_memory g c =
    let s = g.S.Source in
    let part = take c.in-Ok.count c.read.new.into in
    λ _. record {
      bytes = c.reads.bytes.items ++ part;
      taken = Consumes-then (s.observed c.args.source.now).bytes (s.observed c.reads.source).bytes (s.observed c.read.new.self).bytes _ _ c.reads.invariant.taken c.in-Ok.ensures.bytes.0;
      enough = omega arith;
      within = omega (arith, length-append c.reads.bytes.items part, length-take c.in-Ok.count c.read.new.into, c.in-Ok.ensures.bound);
    }
