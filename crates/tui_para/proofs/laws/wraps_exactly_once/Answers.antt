use Rattle.tui_para.proofs.WithSplits.{exactly_one}
use Rattle.tui_para.proofs.laws.wraps_exactly_once.Goals as goal

pub returns : goal.returns
returns c = λ w way graphemes some. exactly_one w way graphemes
