use Rattle.tui_para.proofs.LinesAfter.{goes_on_after}
use Rattle.tui_para.proofs.laws.wrapping_goes_on.Goals as goal

pub returns : goal.returns
returns c = λ w way graphemes lines k h near. goes_on_after w way graphemes lines k h near
