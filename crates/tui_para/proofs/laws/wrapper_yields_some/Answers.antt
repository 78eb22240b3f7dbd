use Rattle.tui_para.specs.Wrapping.{WrapperLines, WrapperMayYield, wrapper_input_yields}
use Rattle.tui_para.proofs.LinesAgree.{the_known, wrapper_agrees}
use Rattle.tui_para.proofs.LinesExist.{lines_exist, wrapper_lines}
use Rattle.tui_para.proofs.laws.wrapper_yields_some.Goals as goal

pub returns-clause-some : goal.returns-clause-some
returns-clause-some g c =
    let s = c.args.wrapper in
    let (glyphs, source) = c.read_to_end.ensures.source in
    let (ts, texts) = c.read_to_end.ensures.lines in
    lines_exist (wrapper_input_yields g.O.Iterator.next_gives g.I.Iterator.next_gives s).may (WrapperLines s) (wrapper_lines s) ((glyphs, ts), (source, texts)) s.current.width

pub returns-clause-known : goal.returns-clause-known
returns-clause-known g c = λ known will.
    the_known (WrapperMayYield g.O.Iterator.next_gives g.I.Iterator.next_gives c.args.wrapper) known (λ lines may. wrapper_agrees g.O.Iterator.next_gives g.I.Iterator.next_gives c.args.wrapper lines known may will) (returns-clause-some g c)
