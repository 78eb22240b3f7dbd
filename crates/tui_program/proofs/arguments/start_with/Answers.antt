use Rattle.tui_program.proofs.ArgumentLists.{start_with}
use Rattle.tui_program.proofs.arguments.start_with.Goals as goal

pub returns-then-arguments-count : goal.returns-then-arguments-count
returns-then-arguments-count c =
    start_with c.args.arguments.now c.index-arguments-0.result c.args.word.now c.args.count c.eq.result c.if-arguments-count.true c.requires c.index-arguments-0.is
    (rw c.as_str.ensures.value at c.eq.ensures)
