use Rattle.tui_cells.specs.Same.{same_style}
use Rattle.tui_para.proofs.painting.bytes.is_same.Goals as goal

pub returns : goal.returns
returns c = λ e. same_style _ _ (rw c.eq.ensures at e)
