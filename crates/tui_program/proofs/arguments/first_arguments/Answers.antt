use Rattle.std.proofs.Common.{ap, ◌∙◌, ◌+◌}
use Rattle.std.specs.Vec.Iter.{into_iter_items}
use Rattle.tui_program.proofs.FirstArguments.{one_more}
use Rattle.tui_program.proofs.arguments.first_arguments.Goals as goal

pub loop-place-preserved : goal.loop-place-preserved
loop-place-preserved c = (
  c.push.ensures.len ∙ ap (λ n. n + 1) c.loop-place.invariant.0,
  one_more c.loop-place.arguments.items c.push.new.self.items (into_iter_items c.loop-place.rest) (into_iter_items c.next-in-loop-place.new.self) _ c.in-Some.word
      c.loop-place.place c.loop-place-test.true (c.in-Some.ensures).items c.push.ensures.items c.loop-place.invariant.1,
)
