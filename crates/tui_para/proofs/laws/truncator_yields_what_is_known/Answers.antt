use Rattle.tui_para.proofs.LinesAgree.{truncator_agrees}
use Rattle.tui_para.proofs.laws.truncator_yields_what_is_known.Goals as goal

pub returns : goal.returns
returns g c = λ lines known may will. truncator_agrees g.O.Iterator.next_gives g.I.Iterator.next_gives c.args.truncator.now lines known may will
