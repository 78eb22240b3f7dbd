use Rattle.tui_para.proofs.WithSplits.{wrapping_leaves}
use Rattle.tui_para.proofs.laws.wrapping_leaves_out_blanks.Goals as goal

pub returns : goal.returns
returns c = λ w way graphemes lines h. wrapping_leaves w way graphemes lines h
