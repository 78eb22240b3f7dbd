use Rattle.std.proofs.Common.{arith}
use Rattle.std.proofs.lemmas.Grind.{common_steps}
use Rattle.tui_layout.proofs.Heights.{length-heights, read_is}
use Rattle.tui_layout.proofs.sums.Sums.prefix_sum.Goals as goal

pub index-requires : goal.index-requires
index-requires c = grind (arith, common_steps, length-heights 0 c.self.inside.sums.items, c.self.view_is)

pub returns-else-count-eq0 : goal.returns-else-count-eq0
returns-else-count-eq0 c = read_is _ _ c.args.count _ c.self.view_is c.self.invariant c.if-count-eq0.false c.requires c.index.ensures
