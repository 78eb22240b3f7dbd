use Rattle.tui_para.specs.Wrapping.{TruncatorLines, TruncatorMayYield, truncator_input_yields}
use Rattle.tui_para.proofs.LinesAgree.{the_known, truncator_agrees}
use Rattle.tui_para.proofs.LinesExist.{lines_exist, truncator_lines}
use Rattle.tui_para.proofs.laws.truncator_yields_some.Goals as goal

pub returns-clause-some : goal.returns-clause-some
returns-clause-some g c =
    let s = c.args.truncator in
    lines_exist (truncator_input_yields g.O.Iterator.next_gives g.I.Iterator.next_gives s).may (TruncatorLines s) (truncator_lines s) c.read_to_end.ensures s.width

pub returns-clause-known : goal.returns-clause-known
returns-clause-known g c = λ known will.
    the_known (TruncatorMayYield g.O.Iterator.next_gives g.I.Iterator.next_gives c.args.truncator) known (λ lines may. truncator_agrees g.O.Iterator.next_gives g.I.Iterator.next_gives c.args.truncator lines known may will) (returns-clause-some g c)
