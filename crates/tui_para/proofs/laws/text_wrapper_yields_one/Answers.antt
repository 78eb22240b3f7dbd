use Rattle.tui_para.proofs.TextYields.{wrapper_known}
use Rattle.tui_para.proofs.laws.text_wrapper_yields_one.Goals as goal

pub returns : goal.returns
returns c =
    let known = wrapper_known c.args.wrapper in
    (known.0, known.1, c.wrapper_yields_some.ensures.known known.0 known.1)
