use Rattle.tui_para.proofs.TextOnce.{text_truncates_once}
use Rattle.tui_para.proofs.laws.text_truncates_exactly_once.Goals as goal

pub returns : goal.returns
returns c = λ w offset alignment text. text_truncates_once w offset alignment text
