use Rattle.std.proofs.Common.{sym, ◌∙◌}
use Rattle.tui_cells.specs.Same.{same_attributes}
use Rattle.tui_terminal.proofs.styled.is_same.Goals as goal

pub returns : goal.returns
returns c = λ yes. same_attributes c.args.one c.args.other (sym c.eq.ensures ∙ yes)
