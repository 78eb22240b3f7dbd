use Rattle.tui_para.proofs.LinesAgree.{wrapper_agrees}
use Rattle.tui_para.proofs.laws.wrapper_yields_what_is_known.Goals as goal

pub returns : goal.returns
returns g c = λ lines known may will. wrapper_agrees g.O.Iterator.next_gives g.I.Iterator.next_gives c.args.wrapper.now lines known may will
