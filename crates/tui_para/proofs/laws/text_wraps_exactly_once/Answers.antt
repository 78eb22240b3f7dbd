use Rattle.tui_para.proofs.TextOnce.{text_wraps_once}
use Rattle.tui_para.proofs.laws.text_wraps_exactly_once.Goals as goal

pub returns : goal.returns
returns c = λ w way alignment text some. text_wraps_once w way alignment text
