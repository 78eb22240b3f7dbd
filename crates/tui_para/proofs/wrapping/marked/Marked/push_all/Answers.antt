use Rattle.std.proofs.Common.{◌++◌, ◌∷◌, [], refl, arith}
use Rattle.tui_para.proofs.Sources.{Yields-append}
use Rattle.tui_para.proofs.MarkedSplits.{HasPushed-then}
use Rattle.tui_para.proofs.wrapping.marked.Marked.push_all.Goals as goal

pub graphemes-preserved : goal.graphemes-preserved
graphemes-preserved g c =
    let (taken, yields, write) = c.graphemes.invariant.taken in
    let x = c.in-Some.grapheme in
    let on = c.in-Some.ensures.goes.on c.graphemes.invariant.ready.ends in
    let near = c.graphemes.invariant.nearer in
    record {
      taken = (
        taken ++ x ∷ [],
        Yields-append g.I.Iterator.next_gives c.args.source c.graphemes.source c.next.new.self taken (x ∷ []) yields (c.next.new.self, c.in-Some.ensures.steps, refl),
        HasPushed-then c.args.width taken (x ∷ []) c.args.self.now c.graphemes.self c.write.new.self write c.in_ok-write.ensures.ok,
      );
      ready = record { can_next = on.0; ends = on.1 };
      nearer = let less = on.2 in omega arith;
    }
