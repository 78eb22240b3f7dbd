use Rattle.tui_rows.proofs.RowLemmas.{letter_step}
use Rattle.tui_rows.proofs.letters.is_letter.Goals as goal

pub returns : goal.returns
returns c = λ h. letter_step c.args.symbol.now (c.is_letter.ensures.0 h)
