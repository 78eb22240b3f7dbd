use Rattle.tui_para.proofs.TextYields.{truncator_known}
use Rattle.tui_para.proofs.laws.text_truncator_yields_one.Goals as goal

pub returns : goal.returns
returns c =
    let known = truncator_known c.args.truncator in
    (known.0, known.1, c.truncator_yields_some.ensures.known known.0 known.1)
